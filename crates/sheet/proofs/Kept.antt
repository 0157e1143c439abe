-- What the lines of an accepted sheet keep. Assumes nothing.
use Rattle.std.proofs.Common.{◌≡◌, ℕ, zero, suc, Bool, true, false, cond, not, leb, List, [], ◌∷◌, length, sym, refl, ap, ◌∙◌, subst, arith}
use Rattle.std.proofs.lemmas.Bool.{and_from, and_parts}
use Rattle.std.proofs.lemmas.Grind.{common_steps}
use Rattle.tokens.specs.Texts.{Text, Piece, Read, got, refused, then, Form, fields_of, nothing_left}
use Rattle.nest.specs.declared.terms.Grid.{Grid}
use Rattle.nest.specs.declared.terms.MapWord.{MapWord}
use Rattle.nest.specs.declared.terms.Array.{Array}
use Rattle.nest.specs.declared.terms.Range.{Range}
use Rattle.nest.specs.declared.terms.Variable.{Variable}
use Rattle.nest.specs.declared.terms.Variable.TheVariants.{I, J}
use Rattle.nest.specs.declared.terms.Offset.{Offset}
use Rattle.nest.specs.declared.terms.Subscript.{Subscript}
use Rattle.nest.specs.declared.terms.Access.{Access}
use Rattle.nest.specs.declared.terms.ReadTerm.{ReadTerm}
use Rattle.sheet.specs.Verdicts.{Verdict, fine, wrong, ◌>>=◌, nth, within, offset_of, map_of, variable_of, subscript_of, access_of, grid_of, array_of, range_from, Head, head_of, put_of, read_of, count_of}
use Rattle.nest.specs.Terms.{far}
use Rattle.sheet.specs.Lines.{judged, line_by, times, statement_of, lines_of}
use Rattle.nest.specs.Terms.{Said, Sheet}
use Rattle.sheet.specs.Forms.{grid_form, arrays_form, array_form, sweeps_form, stmts_form, stmt_form, put_form, base_form, reads_form, read_form}
use Rattle.nest.specs.Sound.{between, each, is_i, grid_kept, map_kept, array_kept, range_kept, subscript_kept, access_kept, read_kept, statement_kept, nest_kept}

-- a reading that comes to a value came to one first
pub then_inv : {V W : Type 0} (r : Read V) (f : V → Text → Read W) (w : W) (u : Text) → then r f ≡ got w u → (v : V) × (t : Text) × (r ≡ got v t) × (f v t ≡ got w u)
then_inv (got v t) f w u e = (v, t, refl, e)
then_inv (refused a b c) f w u e = absurd (cc)

pub bind_inv : {V W : Type 0} (x : Verdict V) (f : V → Verdict W) (w : W) → ◌>>=◌ x f ≡ fine w → (v : V) × (x ≡ fine v) × (f v ≡ fine w)
bind_inv (fine v) f w e = (v, refl, e)
bind_inv (wrong a b c) f w e = absurd (cc)

judged_inv : {V : Type 0} (x : Verdict V) (t : Text) (v : V) (u : Text) → judged x t ≡ got v u → x ≡ fine v
judged_inv (fine w) t v u e = cc
judged_inv (wrong a b c) t v u e = absurd (cc)

-- a line that is accepted has fields whose verdict is its value
pub line_inv : {V : Type 0} (form : Form) (rule : List Piece → Verdict V) (t : Text) (v : V) (u : Text) → line_by form rule t ≡ got v u → (fields : List Piece) × (rule fields ≡ fine v)
line_inv form rule t v u e =
    let p = then_inv (fields_of form t) _ v u e in
    (p.0, judged_inv (rule p.0) p.1 v u p.3)

got_same : {V : Type 0} {v w : V} {t u : Text} → got v t ≡ got w u → v ≡ w
got_same e = cc

fine_same : {V : Type 0} {v w : V} → fine v ≡ fine w → v ≡ w
fine_same e = cc

pub within_kept : (low high : ℕ) (p : Piece) (v : ℕ) → within low high p ≡ fine v → between low high v ≡ true
within_kept low high p v e = grind (arith, common_steps)

upper : (low high n : ℕ) → between low high n ≡ true → leb n high ≡ true
upper low high n k = grind (arith, common_steps)

map_kept_lem : (p : Piece) (m : MapWord) → map_of p ≡ fine m → map_kept m ≡ true
map_kept_lem p m e = grind (arith, common_steps)

grid_kept_lem : (f : List Piece) (g : Grid) → grid_of f ≡ fine g → grid_kept g ≡ true
grid_kept_lem f g e = grind (arith, common_steps)

array_kept_lem : (f : List Piece) (x : Array) → array_of f ≡ fine x → array_kept x ≡ true
array_kept_lem f x e =
    let a = bind_inv (within 1 32 (nth 0 f)) _ x e in
    let b = bind_inv (within 1 32 (nth 1 f)) _ x a.2 in
    let c = bind_inv (map_of (nth 2 f)) _ x b.2 in
    let d = bind_inv (map_of (nth 3 f)) _ x c.2 in
    subst (λ y. array_kept y ≡ true) (fine_same d.2)
    (and_from _ _ (and_from _ _ (and_from _ _ (within_kept 1 32 (nth 0 f) a.0 a.1) (within_kept 1 32 (nth 1 f) b.0 b.1)) (map_kept_lem (nth 2 f) c.0 c.1)) (map_kept_lem (nth 3 f) d.0 d.1))

range_kept_lem : (p : Piece) (low high : ℕ) (r : Range) → between 1 32 low ≡ true → between 1 32 high ≡ true → range_from p low high ≡ fine r → range_kept r ≡ true
range_kept_lem p low high r l h e = grind (arith, common_steps)

head_kept : (f : List Piece) (h : Head) → head_of f ≡ fine h → (range_kept h.i ≡ true) × (range_kept h.j ≡ true)
head_kept f h e =
    let a = bind_inv (within 1 32 (nth 1 f)) _ h e in
    let b = bind_inv (within 1 32 (nth 2 f)) _ h a.2 in
    let c = bind_inv (within 1 32 (nth 3 f)) _ h b.2 in
    let d = bind_inv (within 1 32 (nth 4 f)) _ h c.2 in
    let ak = within_kept 1 32 (nth 1 f) a.0 a.1 in
    let bk = within_kept 1 32 (nth 2 f) b.0 b.1 in
    let ck = within_kept 1 32 (nth 3 f) c.0 c.1 in
    let dk = within_kept 1 32 (nth 4 f) d.0 d.1 in
    let z = d.2 in
    (grind (arith, common_steps, ak, bk, z), grind (arith, common_steps, ck, dk, z))

subscript_kept_lem : (least : ℕ) (v : Variable) (p q : Piece) (s : Subscript) → subscript_of least v p q ≡ fine s → (subscript_kept least s ≡ true) × (s.variable ≡ v)
subscript_kept_lem least v p q s e = grind (arith, common_steps)

module _ (arrays : List Array) (i j : Range) where
  access_kept_lem : (least : ℕ) (p : Piece) (t : ℕ) (q : Piece) (row : Subscript) (r : Piece) (column : Subscript) (x : Access) → leb 1 t ≡ true → subscript_kept least row ≡ true → subscript_kept least column ≡ true → access_of arrays i j p t q row r column ≡ fine x → (access_kept least arrays i j x ≡ true) × (x.row ≡ row) × (x.column ≡ column)
  access_kept_lem least p t q row r column x one rk ck e = (grind (arith, common_steps), grind (arith, common_steps), grind (arith, common_steps))

put_kept : (arrays : List Array) (h : Head) (f : List Piece) (x : Access) → put_of arrays h f ≡ fine x → (access_kept 1 arrays h.i h.j x ≡ true) × (is_i x.row.variable ≡ true) × (not (is_i x.column.variable) ≡ true)
put_kept arrays h f x e =
    let t = bind_inv (within 1 4 (nth 0 f)) _ x e in
    let r = bind_inv (subscript_of 1 I (nth 1 f) (nth 2 f)) _ x t.2 in
    let c = bind_inv (subscript_of 1 J (nth 3 f) (nth 4 f)) _ x r.2 in
    let rk = subscript_kept_lem 1 I (nth 1 f) (nth 2 f) r.0 r.1 in
    let ck = subscript_kept_lem 1 J (nth 3 f) (nth 4 f) c.0 c.1 in
    let k = access_kept_lem arrays h.i h.j 1 (nth 0 f) t.0 (nth 1 f) r.0 (nth 3 f) c.0 x (and_parts (leb 1 t.0) (leb t.0 4) (within_kept 1 4 (nth 0 f) t.0 t.1)).0 rk.0 ck.0 c.2 in
    (k.0, ap (λ s. is_i s.variable) k.1 ∙ ap is_i rk.1, ap (λ s. not (is_i s.variable)) k.2 ∙ ap (λ v. not (is_i v)) ck.1)

read_kept_lem : (arrays : List Array) (h : Head) (f : List Piece) (x : ReadTerm) → read_of arrays h f ≡ fine x → read_kept arrays h.i h.j x ≡ true
read_kept_lem arrays h f x e =
    let n = bind_inv (within 0 7 (nth 0 f)) _ x e in
    let t = bind_inv (within 1 4 (nth 1 f)) _ x n.2 in
    let r = bind_inv (subscript_of 0 (variable_of (nth 2 f)) (nth 3 f) (nth 4 f)) _ x t.2 in
    let c = bind_inv (subscript_of 0 (variable_of (nth 5 f)) (nth 6 f) (nth 7 f)) _ x r.2 in
    let y = bind_inv (access_of arrays h.i h.j (nth 1 f) t.0 (nth 3 f) r.0 (nth 6 f) c.0) _ x c.2 in
    let rk = subscript_kept_lem 0 (variable_of (nth 2 f)) (nth 3 f) (nth 4 f) r.0 r.1 in
    let ck = subscript_kept_lem 0 (variable_of (nth 5 f)) (nth 6 f) (nth 7 f) c.0 c.1 in
    let k = access_kept_lem arrays h.i h.j 0 (nth 1 f) t.0 (nth 3 f) r.0 (nth 6 f) c.0 y.0 (and_parts (leb 1 t.0) (leb t.0 4) (within_kept 1 4 (nth 1 f) t.0 t.1)).0 rk.0 ck.0 y.1 in
    subst (λ z. read_kept arrays h.i h.j z ≡ true) (fine_same y.2)
    (and_from _ _ (upper 0 7 n.0 (within_kept 0 7 (nth 0 f) n.0 n.1)) k.0)

-- so many values, each of which keeps what one keeps
times_kept : {V : Type 0} (kept : V → Bool) (one : Text → Read V) → ((t : Text) (v : V) (u : Text) → one t ≡ got v u → kept v ≡ true) → (n : ℕ) (t : Text) (vs : List V) (u : Text) → times n one t ≡ got vs u → (each kept vs ≡ true) × (length vs ≡ n)
times_kept kept one h zero t vs u e = let s : [] ≡ vs = cc in (subst (λ l. each kept l ≡ true) s refl, sym (ap length s))
times_kept kept one h (suc n) t vs u e =
    let a = then_inv (one t) _ vs u e in
    let b = then_inv (times n one a.1) _ vs u a.3 in
    let k = times_kept kept one h n a.1 b.0 b.1 b.2 in
    let s : a.0 ∷ b.0 ≡ vs = got_same b.3 in
    (subst (λ l. each kept l ≡ true) s (and_from _ _ (h t a.0 a.1 a.2) k.0), sym (ap length s) ∙ ap suc k.1)

count_kept : (form : Form) (low high : ℕ) (t : Text) (n : ℕ) (u : Text) → line_by form (count_of low high) t ≡ got n u → between low high n ≡ true
count_kept form low high t n u e = let a = line_inv form (count_of low high) t n u e in within_kept low high (nth 0 a.0) n a.1

statement_kept_lem : (arrays : List Array) (t : Text) (s : Said) (u : Text) → statement_of arrays t ≡ got s u → statement_kept arrays s ≡ true
statement_kept_lem arrays t s u e =
    let h = then_inv (line_by stmt_form head_of t) _ s u e in
    let p = then_inv (line_by put_form (put_of arrays h.0) h.1) _ s u h.3 in
    let b = then_inv (line_by base_form (count_of 0 7) p.1) _ s u p.3 in
    let c = then_inv (line_by reads_form (count_of 0 4) b.1) _ s u b.3 in
    let r = then_inv (times c.0 (line_by read_form (read_of arrays h.0)) c.1) _ s u c.3 in
    let hl = line_inv stmt_form head_of t h.0 h.1 h.2 in
    let hk = head_kept hl.0 h.0 hl.1 in
    let pl = line_inv put_form (put_of arrays h.0) h.1 p.0 p.1 p.2 in
    let pk = put_kept arrays h.0 pl.0 p.0 pl.1 in
    let bk = count_kept base_form 0 7 p.1 b.0 b.1 b.2 in
    let ck = count_kept reads_form 0 4 b.1 c.0 c.1 c.2 in
    let rk = times_kept (read_kept arrays h.0.i h.0.j) (line_by read_form (read_of arrays h.0))
    (λ x v y k. let l = line_inv read_form (read_of arrays h.0) x v y k in read_kept_lem arrays h.0 l.0 v l.1) c.0 c.1 r.0 r.1 r.2 in
    let few : leb (length r.0) 4 ≡ true = subst (λ n. leb n 4 ≡ true) (sym rk.1) (upper 0 4 c.0 ck) in
    let same : record { mode = h.0.mode; i = h.0.i; j = h.0.j; put = p.0; base = b.0; reads = r.0 } ≡ s = got_same r.3 in
    subst (λ x. statement_kept arrays x ≡ true) same
    (and_from _ _ (and_from _ _ (and_from _ _ (and_from _ _ (and_from _ _ (and_from _ _ (and_from _ _ hk.0 hk.1) pk.1) pk.2) pk.0) (upper 0 7 b.0 bk)) few) rk.0)

-- an accepted sheet keeps every range, and no subscript of it leaves its array
pub sheet_kept : (t : Text) (s : Sheet) (u : Text) → lines_of t ≡ got s u → nest_kept s.grid s.arrays s.sweeps s.statements ≡ true
sheet_kept t s u e =
    let g = then_inv (line_by grid_form grid_of t) _ s u e in
    let n = then_inv (line_by arrays_form (count_of 1 4) g.1) _ s u g.3 in
    let a = then_inv (times n.0 (line_by array_form array_of) n.1) _ s u n.3 in
    let w = then_inv (line_by sweeps_form (count_of 0 1000) a.1) _ s u a.3 in
    let m = then_inv (line_by stmts_form (count_of 1 8) w.1) _ s u w.3 in
    let x = then_inv (times m.0 (statement_of a.0) m.1) _ s u m.3 in
    let y = then_inv (nothing_left x.1.rest x.1) _ s u x.3 in
    let gl = line_inv grid_form grid_of t g.0 g.1 g.2 in
    let gk = grid_kept_lem gl.0 g.0 gl.1 in
    let nk = count_kept arrays_form 1 4 g.1 n.0 n.1 n.2 in
    let ak = times_kept array_kept (line_by array_form array_of) (λ p v q k. let l = line_inv array_form array_of p v q k in array_kept_lem l.0 v l.1) n.0 n.1 a.0 a.1 a.2 in
    let wk = count_kept sweeps_form 0 1000 a.1 w.0 w.1 w.2 in
    let mk = count_kept stmts_form 1 8 w.1 m.0 m.1 m.2 in
    let xk = times_kept (statement_kept a.0) (statement_of a.0) (statement_kept_lem a.0) m.0 m.1 x.0 x.1 x.2 in
    let an : between 1 4 (length a.0) ≡ true = subst (λ k. between 1 4 k ≡ true) (sym ak.1) nk in
    let xn : between 1 8 (length x.0) ≡ true = subst (λ k. between 1 8 k ≡ true) (sym xk.1) mk in
    let same : record { grid = g.0; arrays = a.0; sweeps = w.0; statements = x.0 } ≡ s = got_same y.3 in
    subst (λ z. nest_kept z.grid z.arrays z.sweeps z.statements ≡ true) same
    (and_from _ _ (and_from _ _ (and_from _ _ (and_from _ _ (and_from _ _ gk an) ak.0) (upper 0 1000 w.0 wk)) xn) xk.0)
