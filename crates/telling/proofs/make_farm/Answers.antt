-- One edit after another: each is made, and each keeps the frame.
use Rattle.std.proofs.Common.{true, false, refl}
use Rattle.book.specs.Edits.{class_edit}
use Rattle.telling.specs.SmallFarm.{blank_farm}
use Rattle.telling.proofs.Making.{edit_done, fit_done}
use Rattle.telling.proofs.make_farm.Goals as goal

pub returns-in_err-say-3-clause-held : goal.returns-in_err-say-3-clause-held
returns-in_err-say-3-clause-held g c =
    let chains = g.B.Book.laws.chains in
    chains _ _ _ (chains _ _ _ c.class.ensures.held c.class-2.ensures.held) c.fit.ensures.held

pub returns-clause-made : goal.returns-clause-made
returns-clause-made g c =
    let meaning = g.B.Book.meaning in
    λ blank.
    let first = edit_done meaning (class_edit 1 true false) blank_farm _ _ c.class.result refl c.class.ensures.told blank in
    let second = edit_done meaning (class_edit 2 false true) _ _ _ c.class-2.result refl c.class-2.ensures.told first in
    let third = fit_done meaning 1 c.lists.result _ _ _ _ _ c.fit.result c.lists.ensures.takes c.lists.ensures.makes refl c.fit.ensures.told second in
    fit_done meaning 2 c.lists-2.result _ _ _ _ _ c.fit-2.result c.lists-2.ensures.takes c.lists-2.ensures.makes refl c.fit-2.ensures.told third

pub returns-in_err-say-4-clause-held : goal.returns-in_err-say-4-clause-held
returns-in_err-say-4-clause-held g c =
    let chains = g.B.Book.laws.chains in
    chains _ _ _ (chains _ _ _ (chains _ _ _ c.class.ensures.held c.class-2.ensures.held) c.fit.ensures.held) c.fit-2.ensures.held

pub returns-clause-held : goal.returns-clause-held
returns-clause-held g c =
    let chains = g.B.Book.laws.chains in
    chains _ _ _ (chains _ _ _ (chains _ _ _ c.class.ensures.held c.class-2.ensures.held) c.fit.ensures.held) c.fit-2.ensures.held
