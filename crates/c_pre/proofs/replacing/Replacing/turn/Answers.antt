use Rattle.std.proofs.Common.{◌≡◌, ◌<◌, ℕ, List, [], length, Some, None, refl, sym, ap, subst, ◌∙◌}
use Rattle.c_pre.specs.declared.known.Node.{Node}
use Rattle.c_pre.specs.declared.known.Link.{Link}
use Rattle.c_pre.specs.declared.known.Fate.{Fate}
use Rattle.c_token.specs.Spelling.{text_of}
use Rattle.c_pre.specs.Views.{macros_in}
use Rattle.c_pre.specs.Waiting.{rests_of}
use Rattle.c_pre.specs.Known.{fates_in, findings_of, tokens_at, Forest, IsLastBefore, opens_of, Stays}
use Rattle.c_pre.proofs.Trees.{root_of}
use Rattle.c_pre.proofs.Opened.{open_distinct}
use Rattle.c_pre.proofs.Told.{root_told, rests_opened}
use Rattle.c_pre.proofs.Turning.{last_leads, entry_within, turn_vanishes, turn_stays, turn_stays_many, turn_inside, turn_inside_many, turn_opens}
use Rattle.c_pre.proofs.replacing.Replacing.turn.Goals as goal

pub entry_of-requires : goal.entry_of-requires
entry_of-requires c = open_distinct (findings_of c.args.known.now) (opens_of c.args.self.now.opened.entries) c.requires.opened

pub found_name-requires-clause-forest : goal.found_name-requires-clause-forest
found_name-requires-clause-forest c = subst (λ (xs : List Node). Forest xs) (sym c.deref-in-Some-entry_of.ensures.value) c.requires.suffices.knows.forest

pub found_name-requires-clause-entry : goal.found_name-requires-clause-entry
found_name-requires-clause-entry c =
    subst (λ (xs : List Node). c.in-Some-entry_of.entry < length xs) (sym c.deref-in-Some-entry_of.ensures.value)
    (entry_within c.args.bytes.now (macros_in c.args.macros.now.entries) (findings_of c.args.known.now) (opens_of c.args.self.now.opened.entries) c.link_at-root.result.root c.in-Some-entry_of.entry (Some c.in-Some-entry_of.entry) c.requires.suffices.knows c.requires.opened c.in-Some-entry_of.ensures refl)

pub found_name-requires-clause-leads : goal.found_name-requires-clause-leads
found_name-requires-clause-leads c =
    subst (λ (xs : List Node). (last : ℕ) → IsLastBefore xs c.in-Lasts.node c.in-Some-entry_of.entry last → tokens_at xs last ≡ [] → ⊥) (sym c.deref-in-Some-entry_of.ensures.value)
    (λ last before.
    last_leads c.args.bytes.now (macros_in c.args.macros.now.entries) (findings_of c.args.known.now) (text_of c.args.bytes.now c.args.token) c.in-Lasts.node c.in-Some-entry_of.entry last (Some c.in-Some.fate) c.requires.suffices.knows
    (c.in-Some.ensures ∙ ap (fates_in c.args.known.now.fates.entries) c.text_at-name.ensures) (ap (λ (x : Fate). Some x) c.in-Lasts.is) before)

pub returns-in-Vanishes-clause-goes : goal.returns-in-Vanishes-clause-goes
returns-in-Vanishes-clause-goes c =
    turn_vanishes c.args.bytes.now (macros_in c.args.macros.now.entries) (findings_of c.args.known.now) c.args.line c.args.token (rests_of c.args.self.now.rests.items) (opens_of c.args.self.now.opened.entries) c.args.out.now.items
    (Some c.in-Some.fate) _ c.requires.suffices.knows c.requires.opened c.requires.line (c.in-Some.ensures ∙ ap (fates_in c.args.known.now.fates.entries) c.text_at-name.ensures) (ap (λ (x : Fate). Some x) c.in-Vanishes.is)

pub returns-in_ok-open-in-None-entry_of-clause-goes : goal.returns-in_ok-open-in-None-entry_of-clause-goes
returns-in_ok-open-in-None-entry_of-clause-goes c =
    let nodes = c.args.known.now.nodes.items in
    let root : c.link_at-root.result.root ≡ root_of nodes c.in-Lasts.node =
    ap (λ (x : Link). x.root) c.link_at-root.ensures ∙ ap (λ (xs : List Node). root_of xs c.in-Lasts.node) c.deref.ensures.value in
    turn_opens c.args.bytes.now (macros_in c.args.macros.now.entries) (findings_of c.args.known.now) c.args.line c.args.token c.placed-placed.result c.tokens_at.result.now (rests_of c.args.self.now.rests.items) (rests_of c.open.new.self.rests.items)
    (opens_of c.args.self.now.opened.entries) (opens_of c.open.new.self.opened.entries) (Some c.in-Some.fate) c.in-Lasts.node c.link_at-root.result.root None c.args.out.now.items c.requires.suffices.knows c.requires.opened c.requires.line
    (c.in-Some.ensures ∙ ap (fates_in c.args.known.now.fates.entries) c.text_at-name.ensures) (ap (λ (x : Fate). Some x) c.in-Lasts.is) root c.in-None-entry_of.ensures refl c.placed-placed.ensures
    (c.tokens_at.ensures ∙ ap (λ (xs : List Node). tokens_at xs c.link_at-root.result.root) c.deref-in-None-entry_of.ensures.value) c.in_ok-open-in-None-entry_of.ensures.rests c.in_ok-open-in-None-entry_of.ensures.opened

pub returns-in_ok-open-in-None-entry_of-clause-rests : goal.returns-in_ok-open-in-None-entry_of-clause-rests
returns-in_ok-open-in-None-entry_of-clause-rests c =
    let macros = macros_in c.args.macros.now.entries in
    let f = findings_of c.args.known.now in
    let root : c.link_at-root.result.root ≡ root_of f.nodes c.in-Lasts.node =
    ap (λ (x : Link). x.root) c.link_at-root.ensures ∙ ap (λ (xs : List Node). root_of xs c.in-Lasts.node) c.deref.ensures.value in
    rests_opened c.args.bytes.now macros f.fates c.tokens_at.result.now (Some c.placed-placed.result.line) (rests_of c.args.self.now.rests.items) (rests_of c.open.new.self.rests.items) c.in_ok-open-in-None-entry_of.ensures.rests
    (root_told c.args.bytes.now macros f (text_of c.args.bytes.now c.args.token) (Some c.in-Some.fate) c.in-Lasts.node c.link_at-root.result.root c.tokens_at.result.now c.requires.suffices
    (c.in-Some.ensures ∙ ap (fates_in c.args.known.now.fates.entries) c.text_at-name.ensures) (ap (λ (x : Fate). Some x) c.in-Lasts.is) root
    (c.tokens_at.ensures ∙ ap (λ (xs : List Node). tokens_at xs c.link_at-root.result.root) c.deref-in-None-entry_of.ensures.value)) c.requires.rests

pub returns-in-Ok-give-clause-goes : goal.returns-in-Ok-give-clause-goes
returns-in-Ok-give-clause-goes c =
    let nodes = c.args.known.now.nodes.items in
    let root : c.link_at-root.result.root ≡ root_of nodes c.in-Lasts.node =
    ap (λ (x : Link). x.root) c.link_at-root.ensures ∙ ap (λ (xs : List Node). root_of xs c.in-Lasts.node) c.deref.ensures.value in
    let stays = subst (λ (xs : List Node). Stays xs c.in-Lasts.node c.in-Some-entry_of.entry c.placed-placed.result c.in-Ok.found) c.deref-in-Some-entry_of.ensures.value c.in-Ok.ensures.found in
    turn_inside c.args.bytes.now (macros_in c.args.macros.now.entries) (findings_of c.args.known.now) c.args.line c.args.token c.placed-placed.result c.in-Ok.found (rests_of c.args.self.now.rests.items)
    (opens_of c.args.self.now.opened.entries) (Some c.in-Some.fate) c.in-Lasts.node c.link_at-root.result.root (Some c.in-Some-entry_of.entry) c.in-Some-entry_of.entry c.args.out.now.items c.give.new.out.items c.requires.suffices.knows c.requires.opened c.requires.line
    (c.in-Some.ensures ∙ ap (fates_in c.args.known.now.fates.entries) c.text_at-name.ensures) (ap (λ (x : Fate). Some x) c.in-Lasts.is) root c.in-Some-entry_of.ensures refl c.placed-placed.ensures stays c.in-Ok-give.ensures.given

pub returns-in-Err-give-clause-many : goal.returns-in-Err-give-clause-many
returns-in-Err-give-clause-many c = λ no_memory.
    let nodes = c.args.known.now.nodes.items in
    let root : c.link_at-root.result.root ≡ root_of nodes c.in-Lasts.node =
    ap (λ (x : Link). x.root) c.link_at-root.ensures ∙ ap (λ (xs : List Node). root_of xs c.in-Lasts.node) c.deref.ensures.value in
    let stays = subst (λ (xs : List Node). Stays xs c.in-Lasts.node c.in-Some-entry_of.entry c.placed-placed.result c.in-Ok.found) c.deref-in-Some-entry_of.ensures.value c.in-Ok.ensures.found in
    let many = c.in-Err-give.ensures.many no_memory in (
      many.0,
      turn_inside_many c.args.bytes.now (macros_in c.args.macros.now.entries) (findings_of c.args.known.now) c.args.line c.args.token c.placed-placed.result c.in-Ok.found (rests_of c.args.self.now.rests.items)
          (opens_of c.args.self.now.opened.entries) (Some c.in-Some.fate) c.in-Lasts.node c.link_at-root.result.root (Some c.in-Some-entry_of.entry) c.in-Some-entry_of.entry c.args.out.now.items c.requires.suffices.knows c.requires.opened c.requires.line
          (c.in-Some.ensures ∙ ap (fates_in c.args.known.now.fates.entries) c.text_at-name.ensures) (ap (λ (x : Fate). Some x) c.in-Lasts.is) root c.in-Some-entry_of.ensures refl c.placed-placed.ensures stays many.1,
    )

pub returns-in-Ok-give-2-clause-goes : goal.returns-in-Ok-give-2-clause-goes
returns-in-Ok-give-2-clause-goes c =
    turn_stays c.args.bytes.now (macros_in c.args.macros.now.entries) c.args.known.now.nodes.items c.args.line c.args.token c.placed-placed.result (rests_of c.args.self.now.rests.items) (opens_of c.args.self.now.opened.entries)
    c.args.out.now.items c.give-in-None.new.out.items c.requires.line (c.requires.told (sym (c.in-None.ensures ∙ ap (fates_in c.args.known.now.fates.entries) c.text_at-name.ensures))) c.placed-placed.ensures c.in-Ok-give-2.ensures.given

pub returns-in-Err-give-2-clause-many : goal.returns-in-Err-give-2-clause-many
returns-in-Err-give-2-clause-many c = λ no_memory.
    let many = c.in-Err-give-2.ensures.many no_memory in (
      many.0,
      turn_stays_many c.args.bytes.now (macros_in c.args.macros.now.entries) c.args.known.now.nodes.items c.args.line c.args.token c.placed-placed.result (rests_of c.args.self.now.rests.items) (opens_of c.args.self.now.opened.entries)
          c.args.out.now.items c.requires.line (c.requires.told (sym (c.in-None.ensures ∙ ap (fates_in c.args.known.now.fates.entries) c.text_at-name.ensures))) c.placed-placed.ensures many.1,
    )
