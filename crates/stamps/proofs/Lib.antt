pub mod Contents
pub mod Numbers
