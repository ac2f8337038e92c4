-- The number's text, then the bytes that end it.
use Rattle.std.proofs.Common.{◌∙◌}
use Rattle.lineruns_text.proofs.Placing.{both}
use Rattle.lineruns_text.proofs.text.Text.push_number.Goals as goal

pub returns : goal.returns
returns g c = rw (c.as_bytes.ensures.value ∙ c.format.ensures.text) at (both c.push.ensures c.push-2.ensures)
