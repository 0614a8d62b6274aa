-- The five parts of the text.
use Rattle.canon_text.proofs.Steps.{go_on, cut}
use Rattle.automaton_texts.specs.Text.{text_of}
use Rattle.canon_text.proofs.write.put_text.Goals as goal

pub returns-in_err-put_heading-clause-bytes : goal.returns-in_err-put_heading-clause-bytes
unfolding text_of
returns-in_err-put_heading-clause-bytes g c = cut c.from_residual.result c.from_residual.ensures.0 _ _ _ _ _ _ (rw (c.base.ensures, c.vars.ensures) at c.in_err-put_heading.ensures.bytes)

pub returns-in_err-put_counts-clause-bytes : goal.returns-in_err-put_counts-clause-bytes
unfolding text_of
returns-in_err-put_counts-clause-bytes g c = go_on _ _ _ _ (rw (c.base.ensures, c.vars.ensures) at c.in_ok-put_heading.ensures.bytes) (cut c.from_residual-in_err-put_counts.result c.from_residual-in_err-put_counts.ensures.0 _ _ _ _ _ _ c.in_err-put_counts.ensures.bytes)

pub returns-in_err-put_int_lines-clause-bytes : goal.returns-in_err-put_int_lines-clause-bytes
unfolding text_of
returns-in_err-put_int_lines-clause-bytes g c = go_on _ _ _ _ (rw (c.base.ensures, c.vars.ensures) at c.in_ok-put_heading.ensures.bytes) (go_on _ _ _ _ c.in_ok-put_counts.ensures.bytes (cut c.from_residual-in_err-put_int_lines.result c.from_residual-in_err-put_int_lines.ensures.0 _ _ _ _ _ _ c.in_err-put_int_lines.ensures.bytes))

pub returns-in_err-put_frac_lines-clause-bytes : goal.returns-in_err-put_frac_lines-clause-bytes
unfolding text_of
returns-in_err-put_frac_lines-clause-bytes g c = go_on _ _ _ _ (rw (c.base.ensures, c.vars.ensures) at c.in_ok-put_heading.ensures.bytes) (go_on _ _ _ _ c.in_ok-put_counts.ensures.bytes (go_on _ _ _ _ c.in_ok-put_int_lines.ensures.bytes (cut c.from_residual-in_err-put_frac_lines.result c.from_residual-in_err-put_frac_lines.ensures.0 _ _ _ _ _ _ c.in_err-put_frac_lines.ensures.bytes)))

pub returns-clause-bytes : goal.returns-clause-bytes
unfolding text_of
returns-clause-bytes g c = go_on _ _ _ _ (rw (c.base.ensures, c.vars.ensures) at c.in_ok-put_heading.ensures.bytes) (go_on _ _ _ _ c.in_ok-put_counts.ensures.bytes (go_on _ _ _ _ c.in_ok-put_int_lines.ensures.bytes (go_on _ _ _ _ c.in_ok-put_frac_lines.ensures.bytes c.put.ensures.bytes)))
