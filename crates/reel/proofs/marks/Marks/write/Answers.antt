-- The records, the table and the last bytes, one behind the other, are the file, and fill the buffer.
use Prim.Native.Nat.{◌*◌}
use mathlib.Core.Path.{sym, ap, ap₂, ◌∙◌}
use mathlib.Core.List.{◌++◌, append_assoc}
use native.Mathlib.Omega.{arith}
use lib.IntN.{pos}
use lib.ListN.{length}
use Rattle.std.proofs.lemmas.List.{get_or_default}
use Rattle.coordinate.specs.Coordinate.{out_of_range}
use Rattle.reel.specs.Reel.{record_bytes, table_bytes, trailer}
use Rattle.reel.proofs.Conditions.{Writable, writable}
use Rattle.reel.proofs.Records.{in_list}
use Rattle.reel.proofs.Encoded.{encoded_pieces}
use Rattle.reel.proofs.marks.Marks.write.Goals.{Start}
use Rattle.reel.proofs.marks.Marks.write.Goals as goal

held : (c : Start) → Writable c.args.self.list.now c.args.self.table.now (length c.args.output.now)
held c = (writable c.args.self.list.now c.args.self.table.now (length c.args.output.now)).0 c.requires

pub split_at_mut-records-requires : goal.split_at_mut-records-requires
split_at_mut-records-requires c = omega (arith, (held (goal.at.split_at_mut-records-requires c).Start).whole)

pub split_at_mut-numbers-requires : goal.split_at_mut-numbers-requires
split_at_mut-numbers-requires c = omega (arith, (held (goal.at.split_at_mut-numbers-requires c).Start).whole)

pub write_items-requires-clause-fits : goal.write_items-requires-clause-fits
write_items-requires-clause-fits c k d l = let list = c.args.self.list.now in
    ap out_of_range (get_or_default list k d (pos 0) l)
    ∙ in_list list (held (goal.at.write_items-requires-clause-fits c).Start).in_range k l

pub overflow_cast-position : goal.overflow_cast-position
overflow_cast-position c = record { fits = omega (arith, (held (goal.at.overflow_cast-position c).Start).few) }

pub overflow_cast-self : goal.overflow_cast-self
overflow_cast-self c = record { fits = omega (arith, (held (goal.at.overflow_cast-self c).Start).few) }

pub write_trailer-requires : goal.write_trailer-requires
write_trailer-requires c = omega (arith, (held (goal.at.write_trailer-requires c).Start).whole)

pub returns : goal.returns
returns c = let list = c.args.self.list.now in
    let marks = c.args.self.table.now in
    ap₂ ◌++◌ c.write_items.ensures (ap₂ ◌++◌ c.write_items-2.ensures c.write_trailer.ensures)
    ∙ sym (append_assoc (record_bytes list) (table_bytes marks) (trailer (2 * length list) (length marks)))
    ∙ sym (encoded_pieces list marks)
