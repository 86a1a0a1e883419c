use Rattle.capture_parts.proofs.Segments.{segments_name_lem}
use Rattle.capture_parts.proofs.laws.segments_name.Goals as goal

pub returns : goal.returns
returns c = segments_name_lem
