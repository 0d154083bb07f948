-- What is read of initializers, declarators and declarations stands there.
use Rattle.std.proofs.Common.{◌≡◌, ◌+◌, max, ℕ, zero, suc, List, [], ◌∷◌, ◌++◌, length, Bool, true, false, cond, Option, Some, None, refl, ap, sym, subst, ◌∙◌, arith}
use Rattle.std.proofs.lemmas.List.{append_assoc}
use Rattle.c_token.specs.declared.token.Token.{Token}
use Rattle.c_token.specs.declared.token.Mark.TheVariants as marks
use Rattle.c_tree.specs.Names.{Scope}
use Rattle.c_tree.specs.Spelling.{Single, Then, IsMark}
use Rattle.c_tree.specs.Declarations.{Full, full_depth, full_has_name, Parts, Initial, initial, braces, Initials, no_initial, initials, Declarators, none_declared, declarator, initial_depth, initials_depth, initializer_depth, declarators_depth, parts_depth, name_of, with_parts, have_typedef, specify}
use Rattle.c_tree.specs.Files.{SpellsFull, IsWellFull, SpellsInitial, SpellsInitials, SpellsOtherInitials, SpellsInitializer, SpellsOthers, SpellsDeclarators, SpellsDeclaration, IsWellInitial, AreWellInitials, IsWellInitializer, AreWellDeclarators, FrontIsNoTypeOfDeclarators, IsWellDeclaration}
use Rattle.c_parse_expr.specs.inner.Many.{◌>>=◌}
use Rattle.c_parse_expr.specs.Reading.{is_mark}
use Rattle.c_parse_expr.specs.inner.Reading.{reader}
use Rattle.c_parse_parts.specs.inner.Reading.{Read, State, token_at, comma_at, shut_at, ended_at, start_at, parts_at, are_some, body_at, full_at, initials_list, initials_at, initial_by, initial_at, initializer_by, initializer_at, declarator_at, declarators_list, declarators_at, declaration_at}
use Rattle.c_parse_parts.proofs.Lists.{some_is, bind_some, run_takes}
use Rattle.c_parse_parts.proofs.Words.{mark_takes}
use Rattle.c_parse_expr.proofs.Sound.{reads}
use Rattle.c_parse_parts.proofs.Runs.{Run, seam, in_front_of, Separated, separated_joins, comma_takes, shut_takes, ended_takes, regroup}
use Rattle.c_parse_parts.proofs.SoundParts.{parts_take, body_takes, full_takes, front_no_type, if_some, some_parts, grouped_behind}

-- initializers
abbrev pub InitialRun : List ℕ → Scope → ℕ → Initial → List Token → List Token → Type 0
InitialRun bytes names n i = Run (SpellsInitial bytes i) (IsWellInitial names i) (initial_depth i) n

abbrev InitialTakes : List ℕ → Scope → ℕ → (List Token → Read Initial) → Type 0
InitialTakes bytes names n sub = (ts : List Token) (x : Initial × List Token) → sub ts ≡ Some x → InitialRun bytes names n x.0 ts x.1

abbrev pub SpellsInitialsBy : Bool → List ℕ → Initials → List Token → Type 0
SpellsInitialsBy true bytes is = SpellsInitials bytes is
SpellsInitialsBy false bytes is = SpellsOtherInitials bytes is

initials_are : (first : Bool) (bytes : List ℕ) (i : Initial) (is : Initials) (own : List Token) → Separated first (Then (SpellsInitial bytes i) (SpellsOtherInitials bytes is)) own → SpellsInitialsBy first bytes (initials i is) own
initials_are true bytes i is own s = s
initials_are false bytes i is own s = s

abbrev SeparateInitial : List ℕ → Scope → ℕ → Bool → Initial → List Token → List Token → Type 0
SeparateInitial bytes names n first i = Run (Separated first (SpellsInitial bytes i)) (IsWellInitial names i) (initial_depth i) n

abbrev InitialsRun : List ℕ → Scope → ℕ → Bool → Initials → List Token → List Token → Type 0
InitialsRun bytes names n first is = Run (SpellsInitialsBy first bytes is) (AreWellInitials names is) (initials_depth is) n

initials_stop : (bytes : List ℕ) (names : Scope) (n : ℕ) (first : Bool) (ts : List Token) (x : Initials × List Token) → (shut_at first ts >>= λ rest. Some (no_initial, rest)) ≡ Some x → InitialsRun bytes names n first x.0 ts x.1
initials_stop bytes names n first ts x e =
    let a = bind_some (shut_at first ts) (λ rest. Some (no_initial, rest)) x e in
    let h = shut_takes first ts a.0 a.1 in
    subst (λ (y : Initials × List Token). InitialsRun bytes names n first y.0 ts y.1) (some_is a.2)
    (record {
      own = h.own;
      spelled = subst (λ (b : Bool). SpellsInitialsBy b bytes no_initial h.own) (sym h.later) h.closes;
      front = h.front;
      well = tt;
      deep = omega arith;
    })

initials_item : (bytes : List ℕ) (names : Scope) (n : ℕ) (sub : List Token → Read Initial) → InitialTakes bytes names n sub → (first : Bool) (ts : List Token) (x : Initial × List Token) → (comma_at first ts >>= sub) ≡ Some x → SeparateInitial bytes names n first x.0 ts x.1
initials_item bytes names n sub takes first ts x e =
    let a = bind_some (comma_at first ts) sub x e in
    comma_takes first (SpellsInitial bytes x.0) (IsWellInitial names x.0) (initial_depth x.0) n ts a.0 x.1 a.1 (takes a.0 x a.2)

initials_join : (bytes : List ℕ) (names : Scope) (n : ℕ) (first : Bool) (i : Initial) (is : Initials) (ts mid rest : List Token) → SeparateInitial bytes names n first i ts mid → InitialsRun bytes names n false is mid rest → InitialsRun bytes names n first (initials i is) ts rest
initials_join bytes names n first i is ts mid rest a b = record {
  own = a.own ++ b.own;
  spelled = initials_are first bytes i is (a.own ++ b.own) (separated_joins first (SpellsInitial bytes i) (SpellsOtherInitials bytes is) a.own b.own a.spelled b.spelled);
  front = seam ts a.own mid rest b.own a.front b.front;
  well = (a.well, b.well);
  deep = omega (arith, a.deep, b.deep);
}

initials_take : (bytes : List ℕ) (names : Scope) (n : ℕ) (sub : List Token → Read Initial) → InitialTakes bytes names n sub → (ts : List Token) (x : Initials × List Token) → initials_at sub ts ≡ Some x → InitialsRun bytes names n true x.0 ts x.1
unfolding initials_at
initials_take bytes names n sub takes ts x e =
    run_takes (initials_list sub) (SeparateInitial bytes names n) (InitialsRun bytes names n) (initials_stop bytes names n) (initials_item bytes names n sub takes) (initials_join bytes names n) (length ts + 1) true ts x e

initial_either : (bytes : List ℕ) (names : Scope) (n : ℕ) (sub : List Token → Read Initial) → InitialTakes bytes names n sub → (ts : List Token) (o : Read Token) (x : Initial × List Token) → token_at (is_mark marks.LeftBrace) ts ≡ o → initial_by bytes names (suc n) sub ts o ≡ Some x → InitialRun bytes names (suc n) x.0 ts x.1
initial_either bytes names n sub takes ts None x f e =
    let a = bind_some (reader bytes names (suc n) 2 ts) (λ e. Some (initial e.0, e.1)) x e in
    let s = reads bytes names (suc n) 2 ts a.0 (omega arith) a.1 in
    subst (λ (y : Initial × List Token). InitialRun bytes names (suc n) y.0 ts y.1) (some_is a.2)
    (record { own = s.own; spelled = s.spelled; front = s.front; well = (s.level, s.well); deep = s.deep })
initial_either bytes names n sub takes ts (Some y) x f e =
    let a = bind_some (initials_at sub y.1) (λ is. Some (braces y.0.line is.0, is.1)) x e in
    let h = mark_takes marks.LeftBrace ts y f in
    let r = initials_take bytes names n sub takes y.1 a.0 a.1 in
    subst (λ (y : Initial × List Token). InitialRun bytes names (suc n) y.0 ts y.1) (some_is a.2)
    (record {
      own = y.0 ∷ r.own;
      spelled = record { token = y.0; rest = r.own; is = record { kind = h.is; line = refl }; behind = r.spelled; whole = refl };
      front = in_front_of y.0 ts y.1 r.own a.0.1 h.whole r.front;
      well = r.well;
      deep = omega (arith, r.deep);
    })

initial_takes : (bytes : List ℕ) (names : Scope) (n : ℕ) → InitialTakes bytes names n (initial_at bytes names n)
unfolding initial_at
initial_takes bytes names zero ts x e = absurd cc
initial_takes bytes names (suc n) ts x e =
    initial_either bytes names n (initial_at bytes names n) (initial_takes bytes names n) ts (token_at (is_mark marks.LeftBrace) ts) x refl e

abbrev pub InitializerRun : List ℕ → Scope → ℕ → Option Initial → List Token → List Token → Type 0
InitializerRun bytes names n i = Run (SpellsInitializer bytes i) (IsWellInitializer names i) (initializer_depth i) n

initializer_either : (bytes : List ℕ) (names : Scope) (n : ℕ) (ts : List Token) (o : Read Token) (x : Option Initial × List Token) → token_at (is_mark marks.Equal) ts ≡ o → initializer_by bytes names n ts o ≡ Some x → InitializerRun bytes names n x.0 ts x.1
initializer_either bytes names n ts None x f e =
    subst (λ (y : Option Initial × List Token). InitializerRun bytes names n y.0 ts y.1) (some_is e)
    (record { own = []; spelled = refl; front = refl; well = tt; deep = omega arith })
initializer_either bytes names n ts (Some y) x f e =
    let h = mark_takes marks.Equal ts y f in
    let a = bind_some (initial_at bytes names n y.1) (λ i. Some (Some i.0, i.1)) x e in
    let s = initial_takes bytes names n y.1 a.0 a.1 in
    subst (λ (y : Option Initial × List Token). InitializerRun bytes names n y.0 ts y.1) (some_is a.2)
    (record {
      own = y.0 ∷ s.own;
      spelled = record { token = y.0; rest = s.own; is = h.is; behind = s.spelled; whole = refl };
      front = h.whole ∙ ap (λ (xs : List Token). y.0 ∷ xs) s.front;
      well = s.well;
      deep = s.deep;
    })

pub initializer_takes : (bytes : List ℕ) (names : Scope) (n : ℕ) (ts : List Token) (x : Option Initial × List Token) → initializer_at bytes names n ts ≡ Some x → InitializerRun bytes names n x.0 ts x.1
unfolding initializer_at
initializer_takes bytes names n ts x e = initializer_either bytes names n ts (token_at (is_mark marks.Equal) ts) x refl e

-- declarators
abbrev pub SpellsDeclarator : List ℕ → Full × Option Initial → List Token → Type 0
SpellsDeclarator bytes d = Then (SpellsFull bytes d.0) (SpellsInitializer bytes d.1)

abbrev pub DeclaratorWell : Scope → Bool → Full × Option Initial → Type 0
DeclaratorWell names types d = (full_has_name d.0 ≡ true) × IsWellFull names false d.0 × IsWellInitializer ((name_of d.0, types) ∷ names) d.1

abbrev pub declarator_depth : Full × Option Initial → ℕ
declarator_depth d = max (full_depth d.0) (initializer_depth d.1)

declarator_takes : (bytes : List ℕ) (names : Scope) (types : Bool) (n : ℕ) (ts : List Token) (x : (Full × Option Initial) × List Token) → declarator_at bytes names types n ts ≡ Some x → Run (SpellsDeclarator bytes x.0) (DeclaratorWell names types x.0) (declarator_depth x.0) n ts x.1
unfolding declarator_at initializer_at
declarator_takes bytes names types n ts x e =
    let a = bind_some (full_at bytes n false names ts) (λ d. initializer_at bytes ((name_of d.0, types) ∷ names) n d.1 >>= λ i. Some ((d.0, i.0), i.1)) x e in
    let b = bind_some (initializer_at bytes ((name_of a.0.0, types) ∷ names) n a.0.1) (λ i. Some ((a.0.0, i.0), i.1)) x a.2 in
    let d = full_takes bytes n false names ts a.0 a.1 in
    let i = initializer_either bytes ((name_of a.0.0, types) ∷ names) n a.0.1 (token_at (is_mark marks.Equal) a.0.1) b.0 refl b.1 in
    subst (λ (y : (Full × Option Initial) × List Token). Run (SpellsDeclarator bytes y.0) (DeclaratorWell names types y.0) (declarator_depth y.0) n ts y.1) (some_is b.2)
    (record {
      own = d.own ++ i.own;
      spelled = record { left = d.own; right = i.own; first = d.spelled; second = i.spelled; whole = refl };
      front = seam ts d.own a.0.1 b.0.1 i.own d.front i.front;
      well = (d.well.1 refl, d.well.0, i.well);
      deep = omega (arith, d.deep, i.deep);
    })

abbrev pub SpellsDeclaratorsBy : Bool → List ℕ → Declarators → List Token → Type 0
SpellsDeclaratorsBy true bytes ds = SpellsDeclarators bytes ds
SpellsDeclaratorsBy false bytes ds = SpellsOthers bytes ds

declarators_are : (first : Bool) (bytes : List ℕ) (d : Full × Option Initial) (ds : Declarators) (own : List Token) → Separated first (Then (SpellsDeclarator bytes d) (SpellsOthers bytes ds)) own → SpellsDeclaratorsBy first bytes (declarator d.0 d.1 ds) own
declarators_are true bytes d ds own s = regroup (SpellsFull bytes d.0) (SpellsInitializer bytes d.1) (SpellsOthers bytes ds) own s
declarators_are false bytes d ds own s = grouped_behind (IsMark marks.Comma) (SpellsFull bytes d.0) (SpellsInitializer bytes d.1) (SpellsOthers bytes ds) own s

none_are : (first : Bool) (bytes : List ℕ) (own : List Token) → Single (IsMark marks.Semicolon) own → SpellsDeclaratorsBy first bytes none_declared own
none_are true bytes own s = s
none_are false bytes own s = s

abbrev pub SeparateDeclarator : List ℕ → Bool → ℕ → State → Full × Option Initial → List Token → List Token → Type 0
SeparateDeclarator bytes types n s d = Run (Separated s.1 (SpellsDeclarator bytes d)) (DeclaratorWell s.0 types d) (declarator_depth d) n

abbrev pub DeclaratorsRun : List ℕ → Bool → ℕ → State → Declarators → List Token → List Token → Type 0
DeclaratorsRun bytes types n s ds = Run (SpellsDeclaratorsBy s.1 bytes ds) (AreWellDeclarators s.0 types ds) (declarators_depth ds) n

declarators_stop : (bytes : List ℕ) (types : Bool) (n : ℕ) (s : State) (ts : List Token) (x : Declarators × List Token) → ended_at marks.Semicolon none_declared ts ≡ Some x → DeclaratorsRun bytes types n s x.0 ts x.1
declarators_stop bytes types n s ts x e =
    let h = ended_takes marks.Semicolon none_declared ts x e in
    subst (λ (ds : Declarators). DeclaratorsRun bytes types n s ds ts x.1) h.same
    (record { own = h.token ∷ []; spelled = none_are s.1 bytes (h.token ∷ []) (record { token = h.token; is = h.is; whole = refl }); front = h.whole; well = tt; deep = omega arith })

declarators_item : (bytes : List ℕ) (types : Bool) (n : ℕ) (s : State) (ts : List Token) (x : (Full × Option Initial) × List Token) → (comma_at s.1 ts >>= λ rest. declarator_at bytes s.0 types n rest) ≡ Some x → SeparateDeclarator bytes types n s x.0 ts x.1
declarators_item bytes types n s ts x e =
    let a = bind_some (comma_at s.1 ts) (λ rest. declarator_at bytes s.0 types n rest) x e in
    comma_takes s.1 (SpellsDeclarator bytes x.0) (DeclaratorWell s.0 types x.0) (declarator_depth x.0) n ts a.0 x.1 a.1 (declarator_takes bytes s.0 types n a.0 x a.2)

pub declarators_join : (bytes : List ℕ) (types : Bool) (n : ℕ) (s : State) (d : Full × Option Initial) (ds : Declarators) (ts mid rest : List Token) → SeparateDeclarator bytes types n s d ts mid → DeclaratorsRun bytes types n ((name_of d.0, types) ∷ s.0, false) ds mid rest → DeclaratorsRun bytes types n s (declarator d.0 d.1 ds) ts rest
declarators_join bytes types n s d ds ts mid rest a b = record {
  own = a.own ++ b.own;
  spelled = declarators_are s.1 bytes d ds (a.own ++ b.own) (separated_joins s.1 (SpellsDeclarator bytes d) (SpellsOthers bytes ds) a.own b.own a.spelled b.spelled);
  front = seam ts a.own mid rest b.own a.front b.front;
  well = (a.well.0, a.well.1, a.well.2, b.well);
  deep = omega (arith, a.deep, b.deep);
}

pub declarators_take : (bytes : List ℕ) (names : Scope) (types : Bool) (n : ℕ) (first : Bool) (ts : List Token) (x : Declarators × List Token) → declarators_at bytes names types n first ts ≡ Some x → DeclaratorsRun bytes types n (names, first) x.0 ts x.1
unfolding declarators_at
declarators_take bytes names types n first ts x e =
    run_takes (declarators_list bytes types n) (SeparateDeclarator bytes types n) (DeclaratorsRun bytes types n) (declarators_stop bytes types n) (declarators_item bytes types n) (declarators_join bytes types n) (length ts + 1) (names, first) ts x e

pub front_of_declarators : (bytes : List ℕ) (names : Scope) (before : Bool) (ds : Declarators) (ts own rest : List Token) → start_at false bytes (names, before) ts ≡ None → ts ≡ own ++ rest → SpellsDeclarators bytes ds own → FrontIsNoTypeOfDeclarators names before ds
front_of_declarators bytes names before none_declared ts own rest e f s = tt
front_of_declarators bytes names before (declarator d i ds) ts own rest e f s =
    front_no_type false bytes names before d ts s.left (s.right ++ rest) e (f ∙ ap (λ (xs : List Token). xs ++ rest) s.whole ∙ append_assoc s.left s.right rest) s.first

-- declarations
abbrev pub DeclarationRun : List ℕ → Scope → ℕ → Parts × Declarators → List Token → List Token → Type 0
DeclarationRun bytes names n d = Run (SpellsDeclaration bytes d.0 d.1) (IsWellDeclaration names d.0 d.1) (max (parts_depth d.0) (declarators_depth d.1)) n

pub declaration_takes : (bytes : List ℕ) (names : Scope) (n : ℕ) (ts : List Token) (x : (Parts × Declarators) × List Token) → declaration_at bytes names n ts ≡ Some x → DeclarationRun bytes names n x.0 ts x.1
unfolding declaration_at
declaration_takes bytes names n ts x e =
    let a = bind_some (parts_at false bytes n (body_at bytes n) names ts) (λ p. cond (are_some p.0) (declarators_at bytes (with_parts names p.0) (have_typedef p.0) n true p.1) None >>= λ ds. Some ((p.0, ds.0), ds.1)) x e in
    let b = bind_some (cond (are_some a.0.0) (declarators_at bytes (with_parts names a.0.0) (have_typedef a.0.0) n true a.0.1) None) (λ ds. Some ((a.0.0, ds.0), ds.1)) x a.2 in
    let c = if_some (are_some a.0.0) (declarators_at bytes (with_parts names a.0.0) (have_typedef a.0.0) n true a.0.1) b.0 b.1 in
    let p = parts_take false bytes n (body_at bytes n) (body_takes bytes n) names ts a.0 a.1 in
    let d = declarators_take bytes (with_parts names a.0.0) (have_typedef a.0.0) n true a.0.1 b.0 c.1 in
    subst (λ (y : (Parts × Declarators) × List Token). DeclarationRun bytes names n y.0 ts y.1) (some_is b.2)
    (record {
      own = p.run.own ++ d.own;
      spelled = record { left = p.run.own; right = d.own; first = p.run.spelled; second = d.spelled; whole = refl };
      front = seam ts p.run.own a.0.1 b.0.1 d.own p.run.front d.front;
      well = (some_parts a.0.0 c.0, p.run.well.0, front_of_declarators bytes (with_parts names a.0.0) (specify a.0.0) b.0.0 a.0.1 d.own b.0.1 p.ends d.front d.spelled, d.well);
      deep = omega (arith, p.run.deep, d.deep);
    })
