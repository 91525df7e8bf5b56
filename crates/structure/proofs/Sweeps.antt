-- The largest supported set, computed: the standing units are swept until no sweep takes any away.
use Rattle.std.proofs.Common.{◌≡◌, ℕ, zero, suc, Bool, false, not, ◌&&◌, ◌||◌, ◌⊎◌, List, Decides, sym, ◌∙◌, inl, inr, ⊎_elim, arith}
use Rattle.std.proofs.lemmas.Bool.{false_from_ne_true}
use Rattle.std.proofs.lemmas.Bool.Decides.{Decides-and, Decides-or, Decides-not, Decides-at}
use Rattle.structure.specs.Problem.{Numbers, Member, Within, Problem, Takes, Makes, MadeIn, Bounded}
use Rattle.structure.specs.Supported.{Supported, Largest}
use Rattle.structure.proofs.Searches.{itself, each_entry, is_each_entry, made_in, is_made_in, standing_known}
use Rattle.structure.proofs.Growth.{fallen}
use Rattle.structure.proofs.Tables.{table, at_table, flagged}

-- one sweep: the units of s that make nothing bought and find each input bought or made in s
abbrev pub sweep : Problem → Numbers → Numbers
sweep p s u = s u && (each_entry (λ x. not (p.bought x)) (p.outputs u) && each_entry (λ x. p.bought x || made_in p s x) (p.inputs u))

-- the flags of what k sweeps leave of the standing units
abbrev pub sweeps : Problem → ℕ → List Bool
sweeps p zero = table p.standing p.units
sweeps p (suc k) = table (sweep p (flagged (sweeps p k))) p.units

-- each sweep but the last takes a unit away, so one more than there are units is enough
abbrev pub swept : Problem → Numbers
swept p = flagged (sweeps p (suc p.units))

-- what one sweep keeps of s
abbrev Kept : Problem → Numbers → ℕ → Type 0
Kept p s u = Member s u × (((x : ℕ) → Makes p u x → Member p.bought x → ⊥) × ((x : ℕ) → Takes p u x → Member p.bought x ⊎ MadeIn p s x))

-- a larger set keeps more
kept_wider : (p : Problem) (s t : Numbers) → Within s t → (u : ℕ) → Kept p s u → Kept p t u
kept_wider p s t h u (i, (free, fed)) = (h u i, (free, λ x e. ⊎_elim inl (λ w. inr (w.0, h w.0 w.1, w.2)) (fed x e)))

module _ (p : Problem) (bounded : Bounded p) where
  -- the sweep decides that
  is_sweep : (s : Numbers) → Within s p.standing → (u : ℕ) → Decides (sweep p s u) (Kept p s u)
  is_sweep s stand u =
      Decides-and (s u) _ (itself (s u))
      (Decides-and (each_entry (λ x. not (p.bought x)) (p.outputs u)) (each_entry (λ x. p.bought x || made_in p s x) (p.inputs u))
      (is_each_entry (λ x. not (p.bought x)) (λ x. Member p.bought x → ⊥) (λ x. Decides-not (p.bought x) (itself (p.bought x))) (p.outputs u))
      (is_each_entry (λ x. p.bought x || made_in p s x) (λ x. Member p.bought x ⊎ MadeIn p s x)
      (λ x. Decides-or (p.bought x) (made_in p s x) (itself (p.bought x)) (is_made_in p s (standing_known p bounded s stand) x)) (p.inputs u)))

  -- a table of standing units has them all
  at_standing : (s : Numbers) → Within s p.standing → (u : ℕ) → flagged (table s p.units) u ≡ s u
  at_standing s stand u = at_table s p.units u false (λ past. false_from_ne_true (s u) (λ i. omega (arith, standing_known p bounded s stand u i)))

  -- what one sweep more leaves of standing units
  is_next_of : (k : ℕ) → Within (flagged (sweeps p k)) p.standing → (u : ℕ) → Decides (flagged (sweeps p (suc k)) u) (Kept p (flagged (sweeps p k)) u)
  is_next_of k stand u =
      let s = flagged (sweeps p k) in
      let kept = is_sweep s stand in
      Decides-at (flagged (sweeps p (suc k)) u) (sweep p s u) (at_standing (sweep p s) (λ v i. stand v ((kept v).0 i).0) u) (kept u)

  -- all that is left stands, so each sweep is such a sweep
  sweeps_stand : (k : ℕ) → Within (flagged (sweeps p k)) p.standing
  sweeps_stand zero u i = sym (at_standing p.standing (λ _ e. e) u) ∙ i
  sweeps_stand (suc k) u i = sweeps_stand k u ((is_next_of k (sweeps_stand k) u).0 i).0

  is_next : (k u : ℕ) → Decides (flagged (sweeps p (suc k)) u) (Kept p (flagged (sweeps p k)) u)
  is_next k = is_next_of k (sweeps_stand k)

  -- one sweep more takes nothing away
  still : Within (swept p) (flagged (sweeps p (suc (suc p.units))))
  still =
      fallen (suc p.units) (λ k. flagged (sweeps p k)) (λ k u i. omega (arith, standing_known p bounded (flagged (sweeps p k)) (sweeps_stand k) u i)) (λ k u i. ((is_next k u).0 i).0)
      (λ k h u i. (is_next (suc k) u).1 (kept_wider p (flagged (sweeps p k)) (flagged (sweeps p (suc k))) h u ((is_next k u).0 i)))

  -- no sweep takes a unit of a supported set away
  supported_stays : (s : Numbers) → Supported p s → (k : ℕ) → Within s (flagged (sweeps p k))
  supported_stays s supported zero u i = at_standing p.standing (λ _ e. e) u ∙ supported.stand u i
  supported_stays s supported (suc k) u i =
      (is_next k u).1 (kept_wider p s (flagged (sweeps p k)) (supported_stays s supported k) u (i, (λ x. supported.none_bought u x i, λ x. supported.fed u x i)))

  pub swept_largest : Largest p (swept p)
  swept_largest =
      let kept : (u : ℕ) → Member (swept p) u → Kept p (swept p) u = λ u i. (is_next (suc p.units) u).0 (still u i) in
      record {
        supported = record {
          stand = sweeps_stand (suc p.units);
          none_bought = λ u x i. (kept u i).1.0 x;
          fed = λ u x i. (kept u i).1.1 x;
        };
        all = λ s supported. supported_stays s supported (suc p.units);
      }
