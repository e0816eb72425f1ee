pub mod Most
pub mod Parts
pub mod NodeTrees
pub mod Applied
pub mod Forms
pub mod Numbered
pub mod Unlifted
pub mod Depths
