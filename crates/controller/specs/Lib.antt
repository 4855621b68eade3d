pub mod Bases
pub mod Machines
pub mod Courses
