pub mod CoefficientLaws
pub mod ExampleLaws
pub mod FitLaws
pub mod IndexLaws
pub mod LineLaws
pub mod SomeFit
pub mod StepLaws
pub mod TubeLaws
