pub mod Taking
pub mod Printed
pub mod Storing
pub mod Turns
pub mod Formatting
pub mod PrintedIn
pub mod Parsing
