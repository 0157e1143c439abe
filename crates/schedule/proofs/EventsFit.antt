-- The events of every nest fit the steps of its boards. Assumes nothing.
use Rattle.std.proofs.Common.{◌≡◌, ℕ, ◌<◌, true, List, [], ◌∷◌, sum_by, sym, refl, ap, ◌∙◌}
use Rattle.std.specs.List.{range_with_len, AllByRecursion}
use Rattle.nest.specs.Terms.{Said, Sheet}
use Rattle.nest.specs.Sound.{nest_kept}
use Rattle.sections.specs.Sections.{Deals, Fits}
use Rattle.compiler.specs.Deeds.{Deed, rests}
use Rattle.compiler.specs.Laws.{AllSound}
use Rattle.compiler.specs.Totals.{boards_of, letters_of}
use Rattle.compiler.proofs.FilteredLists.{all_in}
use Rattle.schedule.specs.Memory.{Event, share_of}
use Rattle.schedule.specs.Events.{nest_events, nest_deeds}
use Rattle.schedule.specs.Laws.{puts_in, takes_in, EveryNestFits}
use Rattle.schedule.proofs.EventLists.{sums_same}
use Rattle.schedule.proofs.EventShares.{nest_share}
use Rattle.schedule.proofs.EventHomes.{Home, nest_home}
use Rattle.schedule.proofs.EventCounts.{steps_counted, working_sum, shares_sum}
use Rattle.schedule.proofs.LetterCounts.{ByLetters, puts_by_letters, takes_by_letters, nest_letters}

module _ (n : Sheet) (deals : Deals) (kept : nest_kept n.grid n.arrays n.sweeps n.statements ≡ true) (fit : Fits n.grid n.arrays deals) (sound : AllSound deals) where
  by_boards : (events : List Event) → AllByRecursion (Home n deals) events → AllByRecursion (λ ev. ev.0 < boards_of n.grid) events
  by_boards [] h = tt
  by_boards (ev ∷ events) h = (h.0.0, by_boards events h.1)

  -- letters put, or taken, by all boards together
  pub letters_counted : (f : Deed → ℕ) → ((s : Said) → ByLetters f n.grid.rows deals s) → f rests ≡ 0
      → sum_by (λ p. sum_by f (nest_deeds n deals p)) (range_with_len 0 (boards_of n.grid)) ≡ letters_of n deals
  letters_counted f by idle =
      sums_same (λ p. sum_by f (nest_deeds n deals p)) (λ p. sum_by f (share_of p (nest_events n deals))) (range_with_len 0 (boards_of n.grid))
      (λ p m. working_sum f idle (nest_deeds n deals p) ∙ ap (sum_by f) (sym (nest_share n deals kept fit sound p)))
      ∙ shares_sum f (boards_of n.grid) (nest_events n deals) (by_boards (nest_events n deals) (nest_home n deals kept fit sound))
      ∙ nest_letters f n deals by

pub every_nest_fits : EveryNestFits
every_nest_fits n deals kept fit sound = record {
  shares = λ p h. nest_share n deals kept fit sound p;
  home = λ ev m. all_in (Home n deals) (nest_events n deals) ev (nest_home n deals kept fit sound) m;
  steps = steps_counted n deals;
  puts = letters_counted n deals kept fit sound puts_in (puts_by_letters n.grid.rows deals) refl;
  takes = letters_counted n deals kept fit sound takes_in (takes_by_letters n.grid.rows deals) refl;
}
