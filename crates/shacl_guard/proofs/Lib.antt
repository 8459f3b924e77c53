mod Answering
mod Bounds
mod Complete
mod LogRuns
mod Outcomes
mod Telling
mod Unlogged
