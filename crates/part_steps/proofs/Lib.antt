pub mod StepReader
