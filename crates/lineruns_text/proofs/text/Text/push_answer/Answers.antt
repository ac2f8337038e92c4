-- The lister's answer and the list that it leaves say which text is written.
use Rattle.std.proofs.Common.{refl, ℤ, arith, ◌∙◌, take, length-take, ◌*◌}
use Rattle.refusal.proofs.Handing.{turned}
use Rattle.lineruns_text.proofs.Lengths.{refused_line-length, axis_line-length}
use Rattle.lineruns_text.proofs.Placing.{both}
use Rattle.lineruns_text.proofs.Answering.{Printable, printable, told_refused, printed_is}
use Rattle.lineruns_text.specs.Reading.{line_of}
use Rattle.lineruns_text.proofs.text.Text.push_answer.Goals.{In-Ok}
use Rattle.lineruns_text.proofs.text.Text.push_answer.Goals as goal

listed : (c : In-Ok) → Printable (line_of c.args.input.now) c.in-Ok.listing (take (3 * c.in-Ok.listing.runs) c.list_input.new.list)
listed c =
    printable (line_of c.args.input.now) _ c.list_input.new.list c.list_input.ensures.list_after refl
    c.in-Ok.listing c.in-Ok.ensures.answered

pub push_axis-requires : goal.push_axis-requires
push_axis-requires c =
    let few = (listed (goal.at.push_axis-requires c).In-Ok).few in
    omega (arith, axis_line-length c.letter.result c.in-Ok.listing.runs (omega arith))

pub slice_bounds-list-end : goal.slice_bounds-list-end
slice_bounds-list-end c = let few = (listed (goal.at.slice_bounds-list-end c).In-Ok).few in omega arith

pub slice_bounds-push_runs-end : goal.slice_bounds-push_runs-end
slice_bounds-push_runs-end c = let few = (listed (goal.at.slice_bounds-push_runs-end c).In-Ok).few in omega (arith, length-take {A = ℤ})

pub push_runs-requires : goal.push_runs-requires
push_runs-requires c =
    let list = listed (goal.at.push_runs-requires c).In-Ok in record {
      good = λ k inside. list.good k (omega (arith, list.number));
      room = omega (arith, list.number, axis_line-length c.letter.result c.in-Ok.listing.runs (omega (arith, list.few)));
    }

pub push_refused-requires : goal.push_refused-requires
push_refused-requires c =
    let few = (turned c.in-Err.refusal).few in
    omega (arith, refused_line-length c.number.result (rw c.number.ensures few))

pub returns-in-Ok : goal.returns-in-Ok
returns-in-Ok c =
    let list = listed (goal.at.returns-in-Ok c).In-Ok in
    rw (printed_is c.args.input.now, ← list.text, ← c.letter.ensures) (rw list.number at (both c.push_axis.ensures c.push_runs.ensures))

pub returns-in-Err : goal.returns-in-Err
returns-in-Err c =
    let told = told_refused (line_of c.args.input.now) _ c.list_input.new.list c.list_input.ensures.list_after refl c.in-Err.refusal c.in-Err.ensures.answered in
    rw (printed_is c.args.input.now ∙ told) (rw c.number.ensures at c.push_refused.ensures)
