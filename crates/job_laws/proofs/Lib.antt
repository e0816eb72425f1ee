pub mod ReadableValues
pub mod StuckRuns
pub mod WithoutReports
pub mod ExplainedRefusals
pub mod OneText
pub mod OneCertificate
pub mod OneResult
pub mod OneAnswer
