pub mod EmptyFamilies
pub mod ChurchRosser
pub mod PrincipalTypes
pub mod Untypable
