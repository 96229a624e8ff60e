pub mod Grades
pub mod Texts
