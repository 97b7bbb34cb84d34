-- Laws that belong to no one function, and the theorems of specs/Claims.antt.
pub mod BlockLaws
pub mod FaultLaws
pub mod FaultOrder
pub mod NameLaws
pub mod Indexing
pub mod Accepting
pub mod Lines
pub mod BlockOrder
pub mod Circle
pub mod Refusing
