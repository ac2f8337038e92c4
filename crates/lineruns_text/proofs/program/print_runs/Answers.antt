-- The bytes that were read decide what is printed for all, and the output begins with it.
use Rattle.std.proofs.Common.{take, arith, sym, ◌∙◌, subst}
use Rattle.std.specs.Io.KnownBytes.{Appends}
use Rattle.std.proofs.lemmas.List.{length-take-le}
use Rattle.std.proofs.lemmas.Option.{IfSome_then}
use Rattle.std.proofs.lemmas.Result.{err_from_is_err_and, on_ok_weaker, on_err_weaker}
use Rattle.lineruns_text.proofs.FirstBytes.{Front, FirstOf, text_is, rest_is, text_of_all, read_stopped, write_stopped}
use Rattle.lineruns_text.proofs.program.print_runs.Goals.{After-answer-m}
use Rattle.lineruns_text.proofs.program.print_runs.Given.{Over}
use Rattle.lineruns_text.proofs.program.print_runs.Goals as goal

module _ (g : Over) (c : After-answer-m g) where
  read : FirstOf (g.R.Read.remaining c.args.reader.now) (g.R.Read.remaining c.read_full.new.reader) (take c.in_ok-n.n c.read_full.new.input)
  read =
      let size = length-take-le c.in_ok-n.n c.read_full.new.input c.in_ok-n.ensures.within in record {
        consumed = c.in_ok-n.ensures.first;
        few = omega (arith, c.in_ok-n.ensures.within, c.read_full.auto.input, size);
        end = λ fewer. c.in_ok-n.ensures.all (omega (arith, c.read_full.auto.input, size));
      }

  text : Front (take c.in_ok-n.n c.read_full.new.input) c.answer-m.new.output c.answer-m.result
  text = text_is _ _ _ _ (omega arith) c.answer-m.ensures.value c.answer-m.ensures.output_after

pub returns-in_err-n-clause-stopped : goal.returns-in_err-n-clause-stopped
returns-in_err-n-clause-stopped g c =
    let p = err_from_is_err_and c.from_residual.result c.from_residual.ensures.1 in
    let lost = c.in_err-n.ensures.failed in
    rw p.1
    (read_stopped (g.R.Read.remaining c.args.reader.now) (g.R.Read.remaining c.read_full.new.reader) _
    (lost.0, omega (arith, c.read_full.auto.input, lost.1), lost.2))

pub slice_bounds-output-end : goal.slice_bounds-output-end
slice_bounds-output-end g c = (text g (goal.at.slice_bounds-output-end g c).After-answer-m).fits

pub slice_bounds-write_full-end : goal.slice_bounds-write_full-end
slice_bounds-write_full-end g c = sym (length-take-le _ _ (text g (goal.at.slice_bounds-write_full-end g c).After-answer-m).fits)

pub returns-clause-read : goal.returns-clause-read
returns-clause-read g c =
    let input = read g (goal.at.returns-clause-read g c).After-answer-m in
    on_ok_weaker c.write_full.result (λ written. rest_is _ _ _ input) c.write_full.ensures.all

pub returns-clause-written : goal.returns-clause-written
returns-clause-written g c =
    let a = (goal.at.returns-clause-written g c).After-answer-m in
    on_ok_weaker c.write_full.result
    (λ written. IfSome_then (g.R.Read.remaining c.args.reader.now) (text_of_all _ _ _ (read g a))
    (λ input p. subst (Appends (g.W.Write.contents c.args.writer.now) (g.W.Write.contents c.write_full.new.writer)) ((text g a).text ∙ p) written))
    c.write_full.ensures.all

pub returns-clause-stopped : goal.returns-clause-stopped
returns-clause-stopped g c =
    let a = (goal.at.returns-clause-stopped g c).After-answer-m in
    on_err_weaker c.write_full.result
    (λ sent. write_stopped _ _ (g.W.Write.contents c.args.writer.now) (g.W.Write.contents c.write_full.new.writer) _ _ (read g a) (text g a).text sent)
    c.write_full.ensures.failed
