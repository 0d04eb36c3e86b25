mod Levels
mod FrameSteps
mod Fields
mod RegisterCells
mod CopiedPlaces
mod PointCount
mod DroppedPoints
