-- A loop that closes the gap of one slot. Assumes nothing.
use Rattle.std.proofs.Common.{◌≡◌, ℕ, suc, ◌+◌, ◌-◌, ◌<◌, ◌≤◌, List, [], ◌∷◌, ◌++◌, length, get_or, take, drop, set, sym, refl, ap, ◌∙◌, ap₂, arith}
use Rattle.std.proofs.lemmas.List.Edits.{between_none, between_more}
use Rattle.std.proofs.lemmas.List.{append-nil, append_assoc, take_more_set, drop-set-lt, drop-drop, drop-take, take-take, get_or-drop, length-set}
use Rattle.std.specs.List.{between, remove}

-- ys began as xs. What lies behind the place `gone` of xs and below k stands one place lower in ys, and from k - 1 on ys is as it was.
pub record Closing {X : Type 0} (gone : ℕ) (xs ys : List X) (k : ℕ) : Type 0 where
  pub front : take (k - 1) ys ≡ take gone xs ++ between (gone + 1) k xs
  pub rest : drop (k - 1) ys ≡ drop (k - 1) xs
  pub passed : gone + 1 ≤ k
  pub long : length ys ≡ length xs

module _ {X : Type 0} {gone : ℕ} {xs : List X} where
  pub closing_none : Closing gone xs xs (gone + 1)
  closing_none =
      let e : gone + 1 - 1 ≡ gone = omega arith in
      record {
        front = ap (λ i. take i xs) e ∙ sym (append-nil (take gone xs)) ∙ ap (λ l. take gone xs ++ l) (sym (between_none xs (gone + 1)));
        rest = refl;
        passed = omega arith;
        long = refl;
      }

  -- slot k moves up by one
  pub closing_more : {ys : List X} {k : ℕ} (x : X) → Closing gone xs ys k → k < length xs → x ≡ get_or ys k x → Closing gone xs (set ys (k - 1) x) (k + 1)
  closing_more {ys} {k} x c h read =
      let e : k + 1 - 1 ≡ k = omega (arith, c.passed) in
      let down : k - 1 + 1 ≡ k = omega (arith, c.passed) in
      let moved : x ≡ get_or xs k x = read ∙ same x in
      record {
        front =
            ap (λ i. take i (set ys (k - 1) x)) (e ∙ sym down)
            ∙ take_more_set ys (k - 1) x (omega (arith, c.passed, c.long))
            ∙ ap (λ l. l ++ (x ∷ [])) c.front
            ∙ append_assoc (take gone xs) (between (gone + 1) k xs) (x ∷ [])
            ∙ ap (λ y. take gone xs ++ (between (gone + 1) k xs ++ (y ∷ []))) moved
            ∙ ap (λ l. take gone xs ++ l) (sym (between_more xs (gone + 1) k x c.passed h));
        rest =
            ap (λ i. drop i (set ys (k - 1) x)) (e ∙ sym down)
            ∙ drop-set-lt (k - 1 + 1) ys (k - 1) x (omega arith)
            ∙ sym (drop-drop 1 (k - 1) ys)
            ∙ ap (drop 1) c.rest
            ∙ drop-drop 1 (k - 1) xs
            ∙ ap (λ i. drop i xs) (down ∙ sym e);
        passed = omega (arith, c.passed);
        long = length-set ys (k - 1) x ∙ c.long;
      }
    where
      -- what stands at k has not been moved yet
      same : (d : X) → get_or ys k d ≡ get_or xs k d
      same d =
          let up : k ≡ k - 1 + 1 = omega (arith, c.passed) in
          ap (λ i. get_or ys i d) up
          ∙ sym (get_or-drop (k - 1) ys 1 d)
          ∙ ap (λ l. get_or l 1 d) c.rest
          ∙ get_or-drop (k - 1) xs 1 d
          ∙ ap (λ i. get_or xs i d) (sym up)

  pub closing_all : {ys : List X} {k : ℕ} → Closing gone xs ys k → gone < k → k ≤ length xs → take (k - 1) ys ≡ remove (take k xs) gone
  closing_all {ys} {k} c l h =
      let far = k - (gone + 1) in
      let split : k ≡ suc gone + far = omega arith in
      let up : gone + 1 ≡ suc gone = omega arith in
      c.front
      ∙ ap₂ (λ x y. x ++ y)
      (sym (take-take gone k xs (omega arith)))
      (ap (λ i. take far (drop i xs)) up ∙ sym (drop-take (suc gone) far xs) ∙ ap (λ i. drop (suc gone) (take i xs)) (sym split))
