-- The field shows one number only, and that one may not stand there.
use Rattle.std.proofs.Common.{sym, ap, ◌∙◌, subst}
use Rattle.std.proofs.lemmas.Bool.Decides.{not_from_Decides}
use Rattle.columns.proofs.Laws.{same_shown, shown_not_blank}
use Rattle.columns.specs.Columns.{blanks}
use Rattle.page.specs.Readers.{MayStand}
use Rattle.page.proofs.field.entry_in.Goals as goal

pub returns-in_default : goal.returns-in_default
returns-in_default c =
    let bytes = c.args.field.now in
    let number = c.in-Number.number in
    let shown = c.in-Number.ensures.tells in (
      λ e. shown_not_blank bytes number shown (e ∙ ap blanks (sym c.requires)),
      λ n s h.
          not_from_Decides c.may_stand.result c.may_stand.ensures c.if-may_stand.false
          (subst (MayStand c.args.highest c.args.above) (same_shown bytes n number s shown) h),
    )
