pub mod BreakpointMachines
pub mod RealProjections
