-- what the public contract cites
pub mod Printed
-- what it is made of
pub mod Words
