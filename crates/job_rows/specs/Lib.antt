pub mod Wanting
