-- Cases, steps of a walk, and what every edit does to sums, leaves, copies, boxes, cuts and masses
pub mod Tests
pub mod Steps
pub mod Sums
pub mod Leaves
pub mod Copies
pub mod Orders
pub mod Boxes
pub mod Cuts
pub mod Masses
pub mod Intervals
pub mod Freed
-- The loop from leaf to root, and every edit as one node replaced
pub mod Heights
pub mod Loop
pub mod Edits
-- What every call keeps, and what follows for the code
pub mod Refused
pub mod Keeps
pub mod Nodes
pub mod Room
pub mod Words
-- Demand 3
pub mod Views
pub mod Roots
pub mod Claims
pub mod Demand3
pub mod Example
