pub mod Steps
mod Listed
mod Headed
