pub mod CodeLimits
