-- What is claimed of the reason that a run carries.
pub mod Claims
