pub mod EvalLaws
pub mod ReportLaws
pub mod ExplainLaws
pub mod OneAnswer
