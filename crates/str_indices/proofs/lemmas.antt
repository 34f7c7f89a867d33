pub mod Common
pub mod Texts
pub mod Seams
pub mod Bytes
pub mod Laws
pub mod Passes
pub mod Schemes
pub mod Lanes
pub mod Rest
pub mod Utf8
pub mod Faults
pub mod Kinds
pub mod Utf8Lanes
pub mod Callers
unfoldable pub use Common.*
pub use Texts.*
pub use Seams.*
pub use Laws.*
unfoldable pub use Bytes.*
pub use Utf8.{IsUtf8-follows, IsUtf8-take_follows, valid_len-at_fault, valid_len-whole}
pub use Schemes.*
pub use Schemes.{count-le-size}
pub use Lanes.*
pub use Rest.*
pub use Faults.*
pub use Passes.*
pub use Kinds.*
pub use Callers.*
