-- The letters of these files: g, h, k are data graphs, s is a shapes graph; f is a focus node, v a value node, q a
-- value of a parameter, and in Looks a way; p is a predicate or a path; y and z are readings of a shape, t is the
-- surroundings of a focus node, r a result.
pub mod Rows
pub mod Orders
pub mod Vocabulary
pub mod Triples
pub mod Paths
pub mod Walks
pub mod Instances
pub mod ShapeSyntax
pub mod Parameters
pub mod Limits
pub mod Readings
pub mod Listings
pub mod Patterns
pub mod TermTests
pub mod Targets
pub mod Components
pub mod Validation
pub mod Looks
pub mod ShapeLooks
pub mod Agreement
pub mod Touching
pub mod CompiledShapes
pub mod NodeLooks
pub mod Declarations
pub mod Laws
