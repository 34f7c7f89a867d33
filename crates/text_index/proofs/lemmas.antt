pub mod Common
pub mod Marking
pub mod Answering
pub mod Callers
pub use Common.*
pub use Marking.*
pub use Answering.*
