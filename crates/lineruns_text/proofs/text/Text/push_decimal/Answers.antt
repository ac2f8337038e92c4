-- The digits end where the number's length puts the text's end, so they begin where the text so far ends.
use Rattle.std.proofs.Common.{◌≡◌, arith, refl, ap, length}
use Rattle.std.specs.Fmt.{decimal}
use Rattle.lineruns_text.proofs.Placing.{placed}
use Rattle.lineruns_text.proofs.text.Text.push_decimal.Goals as goal

pub returns : goal.returns
returns c =
    let start : c.write_digits.result ≡ c.args.self.now.len = omega (arith, ap length (ap decimal c.from.ensures)) in
    let e = rw (start, c.from.ensures, c.places.ensures) at c.write_digits.ensures in
    placed c.requires refl (omega arith) e.written e.before
