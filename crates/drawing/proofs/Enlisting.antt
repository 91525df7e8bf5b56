-- How a reduction starts: the units that are live at first, and what waits at first.
use Rattle.std.proofs.Common.{◌≡◌, ℕ, ◌+◌, ◌<◌, ◌≤◌, Bool, true, false, cond, eqb, List, [], ◌∷◌, ◌++◌, length, get_or, take, set, sym, ap, ◌∙◌, subst, ⊎_elim, add-one, arith}
use Rattle.std.proofs.lemmas.List.{length-set, length_push, length-take-le, get_or-set_same, get_or-set_other}
use Rattle.std.proofs.lemmas.List.Sums.{sum_by_more, count_by_more_yes, count_by-le-length}
use Rattle.std.proofs.lemmas.Bool.{cases_eq, cases_Bool, cond-true, cond-false, both_ways, eq-eqb, false≢true}
use Rattle.structure.specs.Problem.{Problem, Bounded}
use Rattle.drawing.specs.Flags.{flagged}
use Rattle.drawing.specs.Reduction.{Among, times, arcs_below, Eligible, Unmade, Enlisted, Seeded}
use Rattle.drawing.proofs.Entries.{names_kept, names_last, names_pushed}
use Rattle.drawing.proofs.Arcs.{arcs_same}

module _ (p : Problem) where
  -- number 0 is nobody's
  pub enlisted_none : Bounded p → (live : List Bool) (ms : List ℕ) → length live ≡ 1025 → length ms ≡ 1025 →
      ((u : ℕ) → flagged live u ≡ false) → ((x : ℕ) → get_or ms x 0 ≡ 0) → Enlisted p live ms 1
  enlisted_none b live ms l k none zero' =
      record {
        live_long = l;
        makers_long = k;
        chosen = λ u. ((λ i. absurd (both_ways (flagged live u) (none u) i)), (λ h. absurd (omega (arith, h.0, (b.units_known u h.1.stands).0))));
        counted = λ x. omega (arith, zero' x, cond-false (flagged live 0) (times x (p.outputs 0)) 0 (none 0));
      }

  module _ {live : List Bool} {ms : List ℕ} {n : ℕ} (t : Enlisted p live ms n) where
    -- unit n is not live yet
    not_yet : flagged live n ≡ false
    not_yet = ⊎_elim (λ (i : flagged live n ≡ true). absurd (omega (arith, ((t.chosen n).0 i).0))) (λ i. i) (cases_Bool (flagged live n))

    pub enlisted_passed : (Eligible p n → ⊥) → Enlisted p live ms (n + 1)
    enlisted_passed ineligible =
        record {
          live_long = t.live_long;
          makers_long = t.makers_long;
          chosen = λ u. (
            (λ i. (omega (arith, ((t.chosen u).0 i).0), ((t.chosen u).0 i).1)),
            (λ h. ⊎_elim
                (λ (e : u ≡ n). absurd (ineligible (subst (Eligible p) e h.1)))
                (λ (e : u ≡ n → ⊥). (t.chosen u).1 (omega (arith, h.0), h.1))
                (cases_eq u n)),
          );
          counted = λ x. subst (λ (k : ℕ). get_or ms x 0 ≡ arcs_below p (flagged live) x k) (sym (add-one n))
              (omega (arith, t.counted x, cond-false (flagged live n) (times x (p.outputs n)) 0 not_yet));
        }

    module _ (inside : n < 1025) (eligible : Eligible p n) where
      here : flagged (set live n true) n ≡ true
      here = get_or-set_same live n true false (omega (arith, t.live_long))

      else_same : (u : ℕ) → (u ≡ n → ⊥) → flagged (set live n true) u ≡ flagged live u
      else_same u e = get_or-set_other live n u true false e

      pub enlisted_added : (ms' : List ℕ) → length ms' ≡ 1025 → ((x : ℕ) → get_or ms' x 0 ≡ get_or ms x 0 + times x (p.outputs n)) →
          Enlisted p (set live n true) ms' (n + 1)
      enlisted_added ms' l more =
          record {
            live_long = length-set live n true ∙ t.live_long;
            makers_long = l;
            chosen = λ u. ⊎_elim
                (λ (e : u ≡ n). ((λ i. (omega arith, subst (Eligible p) (sym e) eligible)), (λ h. ap (flagged (set live n true)) e ∙ here)))
                (λ (e : u ≡ n → ⊥). (
                  (λ i. let c = (t.chosen u).0 (sym (else_same u e) ∙ i) in (omega (arith, c.0), c.1)),
                  (λ h. else_same u e ∙ (t.chosen u).1 (omega (arith, h.0), h.1)),
                ))
                (cases_eq u n);
            counted = λ x.
                let own = cond-true (flagged (set live n true) n) (times x (p.outputs n)) 0 here in
                let below = arcs_same p x (flagged live) (flagged (set live n true)) n (λ u h. else_same u (λ e. omega arith)) in
                subst (λ (k : ℕ). get_or ms' x 0 ≡ arcs_below p (flagged (set live n true)) x k) (sym (add-one n)) (omega (arith, more x, t.counted x, own, below));
          }

-- nothing waits yet, and 0 never does
pub seeded_none : (p : Problem) (ms : List ℕ) → Seeded p ms [] 1
seeded_none p ms = record { unmade = λ x i. absurd (false≢true i); all = λ x l h. absurd (omega (arith, h.some)); room = omega arith }

module _ {p : Problem} {ms q : List ℕ} {n : ℕ} (t : Seeded p ms q n) (inside : n < length ms) where
  pub seeded_room : length q ≤ n
  seeded_room = omega (arith, t.room, count_by-le-length (eqb 0) (take n ms), length-take-le n ms (omega arith))

  pub seeded_passed : (Unmade p ms n → ⊥) → Seeded p ms q (n + 1)
  seeded_passed not =
      record {
        unmade = t.unmade;
        all = λ x l h. ⊎_elim
            (λ (e : x ≡ n). absurd (not (subst (Unmade p ms) e h)))
            (λ (e : x ≡ n → ⊥). t.all x (omega arith) h)
            (cases_eq x n);
        room = omega (arith, t.room, sum_by_more (λ (y : ℕ). cond (eqb 0 y) 1 0) ms n 0 inside);
      }

  pub seeded_added : Unmade p ms n → Seeded p ms (q ++ n ∷ []) (n + 1)
  seeded_added here =
      record {
        unmade = λ x i. ⊎_elim (t.unmade x) (λ (e : x ≡ n). subst (Unmade p ms) (sym e) here) (names_pushed x n q i);
        all = λ x l h. ⊎_elim
            (λ (e : x ≡ n). subst (λ (y : ℕ). Among y (q ++ n ∷ [])) (sym e) (names_last n q))
            (λ (e : x ≡ n → ⊥). names_kept x n q (t.all x (omega arith) h))
            (cases_eq x n);
        room = omega (arith, t.room, length_push q n, count_by_more_yes (eqb 0) ms n 0 inside (eq-eqb 0 (get_or ms n 0) (sym here.none)));
      }
