mod Differing
mod Mapped
mod OneLine
mod Said
pub mod Sent
mod Zipping
