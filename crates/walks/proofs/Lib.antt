mod TrialSteps
mod ChargedTrial
