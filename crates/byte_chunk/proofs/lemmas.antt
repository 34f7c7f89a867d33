pub mod Common
pub mod Lanewise
pub mod Numbers
pub mod Arithmetic
pub mod Formulas
pub mod Words
pub mod VectorLanes
pub mod Callers
unfoldable pub use Common.*
pub use Lanewise.*
pub use Numbers.*
pub use Arithmetic.*
pub use Formulas.*
pub use Words.*
pub use VectorLanes.*
