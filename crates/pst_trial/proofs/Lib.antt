pub mod Sounding
mod Bursts
