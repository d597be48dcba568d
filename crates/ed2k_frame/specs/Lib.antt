pub use Rattle.byteorder.specs.Endian
pub mod Frame
pub mod Front
pub mod Laws
pub mod Reading
pub mod Streams
pub mod Whole
