mod Tries
mod Standing
mod Verdicts
