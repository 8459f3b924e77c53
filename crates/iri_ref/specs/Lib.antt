pub mod Scheme
pub mod Components
pub mod DotSegments
pub mod Resolution
pub mod Laws
