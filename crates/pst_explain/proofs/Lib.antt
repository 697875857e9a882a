pub mod ByVerdict
