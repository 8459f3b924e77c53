mod Stopping
mod ThreeFiles
