use Rattle.metatheory.proofs.Meeting.{equal_terms_meet, meeting_terms_are_equal, reduction_is_confluent}
use Rattle.metatheory.proofs.equality_is_church_rosser.Goals as goal

pub returns : goal.returns
returns c = record { meet = equal_terms_meet; equal = meeting_terms_are_equal; confluent = reduction_is_confluent }
