pub mod FewBlocks
pub mod KeptBlocks
