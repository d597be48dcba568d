pub mod Bytes
pub mod Credit
pub mod Book
pub mod Order
pub mod Laws
pub mod Slots
