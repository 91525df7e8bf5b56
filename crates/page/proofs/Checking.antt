-- How the check of a page goes on from line to line. Assumes nothing.
use Rattle.std.proofs.Common.{◌≡◌, ℕ, ◌+◌, ◌<◌, ◌≤◌, List, length, take, drop, IfOk, Ok, Err, Result, sym, refl, ap, ◌∙◌, subst, inl, inr, arith, length-drop}
use Rattle.std.proofs.lemmas.List.{length-take-le, take-take}
use Rattle.book.specs.declared.PageFault.{PageFault}
use Rattle.page.specs.Checked.{PageOf}
use Rattle.page.specs.Layout.{Line, counts, material, unit, line_length, line_start, line_number, page_length, OnPage}
use Rattle.page.specs.Rules.{fields}
use Rattle.page.specs.Faults.{AllRight, FirstWrong, LineRight, RightAbove, FaultAt, cut_short, wrong_field, bytes_after, Counts, Refused}
use Rattle.page.specs.Readers.{LineTold, LineThere, CutShort, on_line, FaultyAt, LineChecked, FirstFault, EachAnswered}
use Rattle.page.specs.declared.counts.Counts.{Counts as Shown}
use Rattle.page.specs.declared.line.LineFault.{LineFault}
use Rattle.page.proofs.Assembled.{assembled}

-- a line that is there is as long as it should be
pub there_length : (bytes : List ℕ) (start width : ℕ) (part : List ℕ) → LineThere bytes start width part → length part ≡ width
there_length bytes start width part t =
    let e = length-drop start bytes in
    ap length t.1 ∙ length-take-le width (drop start bytes) (omega (arith, t.0))

-- a line that is there is checked by its reader
pub checked_line : {T : Type 0} (bytes : List ℕ) (l : ℕ) (x : Line) (part : List ℕ) (read : Result T LineFault) → LineThere bytes (line_start l x) (line_length x) part → LineTold (fields l x part) part read → LineChecked bytes l x (on_line (line_number l x) read)
checked_line bytes l x part (Ok v) t told = record { whole = t.0; right = subst (λ p. AllRight (fields l x p) p) t.1 told }
checked_line bytes l x part (Err f) t told = (refl, inr (t.0, subst (λ p. FirstWrong (fields l x p) p f.column) t.1 told))

-- a line that is not there is at fault
pub faulty_cut : (bytes : List ℕ) (l : ℕ) (x : Line) (fault : PageFault) → CutShort bytes (line_start l x) (line_length x) (line_number l x) fault → FaultyAt bytes l x fault.line fault.column
faulty_cut bytes l x fault cut = (ap (λ (f : PageFault). f.line) cut.1, inl (cut.0, ap (λ (f : PageFault). f.column) cut.1))

-- what each answer tells is told of all of them
pub each_tells : (answers wanted : ℕ → Result (Unit {0}) PageFault → Type 0) (count : ℕ) (r : Result (Unit {0}) PageFault) → ((k : ℕ) (a : Result (Unit {0}) PageFault) → answers k a → wanted k a) → EachAnswered answers count r → EachAnswered wanted count r
each_tells answers wanted count (Ok _) tells all = λ k some there. tells k (Ok tt) (all k some there)
each_tells answers wanted count (Err fault) tells first = record {
  number = first.number;
  counted = first.counted;
  above = λ k some less. tells k (Ok tt) (first.above k some less);
  faulty = tells first.number (Err fault) first.faulty;
}

-- the first line was read: it is right, and tells the counts of the page
pub record Opened (bytes : List ℕ) (l n : ℕ) : Type 0 where
  pub counted : Counts bytes l n
  pub first : LineRight bytes l counts

pub opened : (bytes first : List ℕ) (read : Result Shown LineFault) (shown : Shown) → LineThere bytes 0 11 first → LineTold (fields 0 counts first) first read → IfOk read (λ c. Counts first c.materials c.units) → Ok shown ≡ on_line 1 read → Opened bytes shown.materials shown.units
opened bytes first (Ok c) shown t told counted e =
    let same : c ≡ shown = cc in
    let k = subst (λ (p : Shown). Counts first p.materials p.units) same counted in
    record {
      counted = record {
        materials = k.materials;
        units = k.units;
        shown = sym (take-take 11 11 bytes (omega arith)) ∙ (ap (take 11) (sym t.1) ∙ k.shown);
      };
      first = checked_line bytes shown.materials counts first (Ok c) t told;
    }
opened bytes first (Err f) shown t told counted e = let z : ◌≡◌ {A = ℕ} 0 1 = cc in absurd (omega arith)

-- the first line was read, and is at fault
pub faulty_first : (bytes first : List ℕ) (read : Result Shown LineFault) (fault : PageFault) → LineThere bytes 0 11 first → LineTold (fields 0 counts first) first read → Err fault ≡ on_line 1 read → FaultyAt bytes 0 counts fault.line fault.column
faulty_first bytes first read fault t told e = subst (LineChecked bytes 0 counts) (sym e) (checked_line bytes 0 counts first read t told)

fault_here : (bytes : List ℕ) (l n : ℕ) (x : Line) (line column : ℕ) → OnPage l n x → RightAbove bytes l n line → FaultyAt bytes l x line column → FaultAt bytes l n line column
fault_here bytes l n x line column on above (e, inl (short, zero)) = cut_short x on e zero above short
fault_here bytes l n x line column on above (e, inr (whole, wrong)) = wrong_field x on e above whole wrong

-- no line stands above the first
above_first : (bytes : List ℕ) (l n line : ℕ) → line ≡ 1 → RightAbove bytes l n line
above_first bytes l n line e counts on h = absurd (omega arith)
above_first bytes l n line e (material k) on h = absurd (omega arith)
above_first bytes l n line e (unit k) on h = absurd (omega arith)

-- the first line is at fault
pub refused_first : (bytes : List ℕ) (line column : ℕ) → FaultyAt bytes 0 counts line column → Refused bytes line column
refused_first bytes line column faulty = record {
  materials = 0;
  units = 0;
  counted = λ h. absurd (omega (arith, faulty.0));
  fault = fault_here bytes 0 0 counts line column tt (above_first bytes 0 0 line faulty.0) faulty;
}

module _ (bytes : List ℕ) (l n : ℕ) (o : Opened bytes l n) where
  above_material : (line number : ℕ) → number ≤ l → line ≡ 1 + number → ((k : ℕ) → 1 ≤ k → k < number → LineRight bytes l (material k)) → RightAbove bytes l n line
  above_material line number there e above counts on h = o.first
  above_material line number there e above (material k) on h = above k on.0 (omega arith)
  above_material line number there e above (unit k) on h = absurd (omega arith)

  -- a material's line is the first at fault
  pub refused_material : (fault : PageFault) → FirstFault (λ k. LineChecked bytes l (material k)) l fault → Refused bytes fault.line fault.column
  refused_material fault w = record {
    materials = l;
    units = n;
    counted = λ h. o.counted;
    fault = fault_here bytes l n (material w.number) fault.line fault.column w.counted (above_material fault.line w.number w.counted.1 w.faulty.0 w.above) w.faulty;
  }

  module _ (materials : (k : ℕ) → 1 ≤ k → k ≤ l → LineRight bytes l (material k)) where
    above_unit : (line number : ℕ) → line ≡ 1 + l + number → ((k : ℕ) → 1 ≤ k → k < number → LineRight bytes l (unit k)) → RightAbove bytes l n line
    above_unit line number e above counts on h = o.first
    above_unit line number e above (material k) on h = materials k on.0 on.1
    above_unit line number e above (unit k) on h = above k on.0 (omega arith)

    -- a unit's line is the first at fault
    pub refused_unit : (fault : PageFault) → FirstFault (λ k. LineChecked bytes l (unit k)) n fault → Refused bytes fault.line fault.column
    refused_unit fault w = record {
      materials = l;
      units = n;
      counted = λ h. o.counted;
      fault = fault_here bytes l n (unit w.number) fault.line fault.column w.counted (above_unit fault.line w.number w.faulty.0 w.above) w.faulty;
    }

    module _ (units : (k : ℕ) → 1 ≤ k → k ≤ n → LineRight bytes l (unit k)) where
      -- every line is right, and more bytes follow
      pub refused_after : page_length l n < length bytes → Refused bytes (l + n + 2) 0
      refused_after more = record {
        materials = l;
        units = n;
        counted = λ h. o.counted;
        fault = bytes_after refl refl (above_unit (l + n + 2) (n + 1) (omega arith) (λ k some h. units k some (omega arith))) more;
      }

      -- every line is right, and no bytes follow
      pub accepted : length bytes ≤ page_length l n → PageOf bytes l n
      accepted no_more =
          let last = (units n o.counted.units.0 (omega arith)).whole in
          assembled bytes l n o.counted materials units (omega (arith, o.counted.units.0))
