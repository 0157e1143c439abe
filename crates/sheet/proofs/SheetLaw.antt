-- The first fault of a sheet, and the lines of an accepted one. Assumes nothing.
use Rattle.std.proofs.Common.{◌≡◌, ℕ, ◌<◌, ◌≤◌, List, ◌++◌, refl, ap, subst, arith}
use Rattle.tokens.specs.Texts.{Read, got, refused}
use Rattle.nest.specs.declared.terms.Array.{Array}
use Rattle.sheet.specs.Forms.{grid_form, arrays_form, array_form, sweeps_form, stmts_form, stmt_form, put_form, base_form, reads_form, read_form}
use Rattle.sheet.specs.Verdicts.{fine, wrong, grid_of, array_of, head_of, put_of, read_of, count_of}
use Rattle.sheet.specs.Lines.{line_by, times, statement_of, lines_of, verdict, start}
use Rattle.nest.specs.Terms.{Sheet}
use Rattle.sheet.specs.SheetLaws.{WholeLines, FirstFault, RefusalLaw, AcceptedLaw}
use Rattle.sheet.proofs.Readers.{NotBefore, Clear, StoppedLines, Anything, LinesLaw, LastCut, LastLaw, nothing_read, and_then, and_last, times_law, end_law}
use Rattle.sheet.proofs.RuleLaws.{count_rule, grid_rule, array_rule, head_rule, put_rule, read_rule}
use Rattle.sheet.proofs.LineReaders.{line_by_law}

statement_law : (arrays : List Array) → LinesLaw (statement_of arrays)
statement_law arrays =
    and_then (line_by stmt_form head_of) _ (line_by_law stmt_form (omega arith) head_of head_rule) (λ head.
    and_then (line_by put_form (put_of arrays head)) _ (line_by_law put_form (omega arith) (put_of arrays head) (put_rule arrays head)) (λ put.
    and_then (line_by base_form (count_of 0 7)) _ (line_by_law base_form (omega arith) (count_of 0 7) (count_rule 0 7)) (λ base.
    and_then (line_by reads_form (count_of 0 4)) _ (line_by_law reads_form (omega arith) (count_of 0 4) (count_rule 0 4)) (λ count.
    and_then (times count (line_by read_form (read_of arrays head))) _
    (times_law (line_by read_form (read_of arrays head)) (line_by_law read_form (omega arith) (read_of arrays head) (read_rule arrays head)) count) (λ reads.
    nothing_read _)))))

sheet_law : LastLaw lines_of
sheet_law =
    and_last (line_by grid_form grid_of) _ (line_by_law grid_form (omega arith) grid_of grid_rule) (λ grid.
    and_last (line_by arrays_form (count_of 1 4)) _ (line_by_law arrays_form (omega arith) (count_of 1 4) (count_rule 1 4)) (λ count.
    and_last (times count (line_by array_form array_of)) _ (times_law (line_by array_form array_of) (line_by_law array_form (omega arith) array_of array_rule) count) (λ arrays.
    and_last (line_by sweeps_form (count_of 0 1000)) _ (line_by_law sweeps_form (omega arith) (count_of 0 1000) (count_rule 0 1000)) (λ sweeps.
    and_last (line_by stmts_form (count_of 1 8)) _ (line_by_law stmts_form (omega arith) (count_of 1 8) (count_rule 1 8)) (λ number.
    and_last (times number (statement_of arrays)) _ (times_law (statement_of arrays) (statement_law arrays) number) (λ statements.
    end_law _))))))

-- the verdict of a reading
not_wrong : {V : Type 0} (o : Read V) (number l b : ℕ) → verdict o ≡ wrong number l b → o ≡ refused number l b
not_wrong (got v u) number l b e = absurd (cc)
not_wrong (refused n line byte) number l b e = cc

first_fault : (bytes : List ℕ) (number l b : ℕ) → StoppedLines Anything lines_of 1 bytes number l b → FirstFault bytes number l b
first_fault bytes number l b h =
    record {
      numbered = h.numbered;
      place = record {
        earlier = h.count;
        before = h.before;
        front = h.front;
        back = h.back;
        cut = h.cut;
        lines = h.lines;
        counted = omega (arith, h.same_line);
        on_one_line = h.unbroken;
        reached = h.place;
      };
      faultless = λ c n m k e. not_before (lines_of (start (h.before ++ c))) (h.faultless c) n m k e;
      form = λ is. record {
        goes_on = ((h.goes_on is).0, λ m k e. cleared (lines_of (start (h.before ++ (h.front ++ (h.goes_on is).0)))) (h.goes_on is).1 m k e);
        cannot = λ x w e c. ap verdict (h.cannot is x w e c);
      };
      meaning = λ is. let (q, after, ended, unbroken, whatever) = h.decided is in record { to_end = q; after = after; ended = ended; on_one_line = unbroken; whatever = λ c. ap verdict (whatever c) };
    }
  where
    not_before : (o : Read Sheet) → NotBefore l o → (n m k : ℕ) → verdict o ≡ wrong n m k → l ≤ m
    not_before o p n m k e = subst (NotBefore l) (not_wrong o n m k e) p

    cleared : (o : Read Sheet) → Clear Anything l o → (m k : ℕ) → verdict o ≡ wrong 1 m k → l < m
    cleared o p m k e = subst (Clear Anything l) (not_wrong o 1 m k e) p refl

pub refusal_law : RefusalLaw
refusal_law bytes number l b e =
    first_fault bytes number l b (subst (LastCut lines_of 1 bytes) (not_wrong (lines_of (start bytes)) number l b e) (sheet_law 1 bytes))

pub accepted_law : AcceptedLaw
accepted_law bytes sheet e = go (lines_of (start bytes)) (sheet_law 1 bytes) e
  where
    go : (o : Read Sheet) → LastCut lines_of 1 bytes o → verdict o ≡ fine sheet → (n : ℕ) × WholeLines n bytes
    go (got v u) h k = (h.0, h.1)
    go (refused number l b) h k = absurd (cc)
