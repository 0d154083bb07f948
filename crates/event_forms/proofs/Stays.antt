-- What events tell under a valuation stays in a graph that has grown.
use Rattle.std.proofs.Common.{◌≡◌, ℕ, List, [], ◌∷◌, ◌++◌, take, refl, sym, ap, subst, ◌∙◌}
use Rattle.std.specs.Prelude.{min, if◌then◌else◌}
use Rattle.std.specs.List.{All}
use Rattle.std.proofs.lemmas.List.Elements.{All-nil, All-head, All-tail, All-weaker}
use Rattle.words.specs.BitVector.{word}
use Rattle.actions.specs.declared.action.Action.TheVariants as actions
use Rattle.actions.specs.declared.action.Answer.TheVariants as answers
use Rattle.actions.specs.declared.action.Next.TheVariants.{Ended, Blocked, Broken}
use Rattle.actions.specs.Behaviour.{Behaviour, word_64}
use Rattle.actions.specs.Pointer.{object_of}
use Rattle.c_values.specs.Variables.{word_count}
use Rattle.c_values.specs.MadeObjects.{made_of}
use Rattle.word_dag.specs.declared.nodes.Id.{Id}
use Rattle.word_dag.specs.declared.nodes.Node.{Node}
use Rattle.word_dag.specs.declared.nodes.Node.TheVariants.{Constant}
use Rattle.word_dag.specs.Meaning.{holds}
use Rattle.word_dag.specs.Growth.{Within, Extends}
use Rattle.word_dag.proofs.Grown.{within_stays, all_within_stays, map_stays, map_widths_stay}
use Rattle.value_nodes.specs.Values.{IsWord, AreBytes}
use Rattle.event_forms.specs.declared.forms.Event.{Event}
use Rattle.event_forms.specs.declared.forms.EventKind.{EventKind}
use Rattle.event_forms.specs.declared.forms.EventKind.TheVariants.{Draw, Fill, Read, Write, Look, Alloc, Die, Free, Exit, Check, Assume}
use Rattle.event_forms.specs.Runs.{Run, stops, bytes_of_words}
use Rattle.event_forms.specs.Arrivals.{asked, stopped, read}
use Rattle.event_forms.specs.Forms.{IsBit, AreWords, KindIn, EventIn, FormIn, IsFixed, IsStaticKind, AreStatic, draws_seen, kind_seen, event_seen, seen, run_read, Begins, IsForm}

module _ (d e : List Node) (x : Extends d e) where
  pub word_stays : (i : Id) (w : ℕ) → IsWord d i w → IsWord e i w
  word_stays i w h = record { there = within_stays d e i x h.there; width_is = x.width_stays i h.there ∙ h.width_is }

  bit_stays : (i : Id) → IsBit d i → IsBit e i
  bit_stays i h = record { there = within_stays d e i x h.there; width_is = x.width_stays i h.there ∙ h.width_is }

  pub words_stay : (count : ℕ) (ids : List Id) → AreWords d count ids → AreWords e count ids
  words_stay count ids h = record { there = all_within_stays d e ids x h.there; widths = map_widths_stay d e ids x h.there ∙ h.widths }

  bytes_stay : (ids : List Id) → AreBytes d ids → AreBytes e ids
  bytes_stay ids h = All-weaker (λ (i : Id). IsWord d i 8) (λ (i : Id). IsWord e i 8) (λ i. word_stays i 8) ids h

  bytes_there : (ids : List Id) → AreBytes d ids → All (Within d) ids
  bytes_there ids h = All-weaker (λ (i : Id). IsWord d i 8) (Within d) (λ i word. word.there) ids h

  pub kind_stays : (k : EventKind) → KindIn d k → KindIn e k
  kind_stays (Draw bits answer) h = word_stays answer bits h
  kind_stays (Fill count most words) h = (word_stays count 64 h.0, words_stay most words h.1)
  kind_stays (Read pointer count answer) h = (word_stays pointer 64 h.0, words_stay count answer h.1)
  kind_stays (Write pointer bytes first) h = (word_stays pointer 64 h.0, bytes_stay bytes h.1)
  kind_stays (Look pointer subscript answer) h = (word_stays pointer 64 h.0, word_stays answer 32 h.1)
  kind_stays (Alloc size bytes readonly heap answer) h = (word_stays size 64 h.0, bytes_stay bytes h.1, word_stays answer 32 h.2)
  kind_stays (Die pointer) h = word_stays pointer 64 h
  kind_stays (Free pointer) h = word_stays pointer 64 h
  kind_stays Exit h = tt
  kind_stays (Check class failing) h = bit_stays failing h
  kind_stays (Assume failing) h = bit_stays failing h

  pub event_in_stays : (event : Event) → EventIn d event → EventIn e event
  event_in_stays event h = record { guard = bit_stays event.guard h.guard; kind = kind_stays event.kind h.kind }

  pub form_stays : (es : List Event) → FormIn d es → FormIn e es
  form_stays es h = All-weaker (EventIn d) (EventIn e) event_in_stays es h

  pub kind_seen_stays : (v : ℕ → ℕ) (line f : ℕ) (k : EventKind) → KindIn d k → kind_seen v e line f k ≡ kind_seen v d line f k
  kind_seen_stays v line f (Draw bits answer) h = ap (λ n. asked (actions.Draw bits) line f (answers.Word (word bits n)) ∷ []) (x.value_stays v answer h.there)
  kind_seen_stays v line f (Fill count most words) h =
      let a = x.value_stays v count h.0.there in let b = map_stays v d e words x h.1.there in
      λ i. draws_seen line f (word_count (min (a i) most)) (min (a i) most) 0 (b i)
  kind_seen_stays v line f (Read pointer count answer) h =
      let a = x.value_stays v pointer h.0.there in let b = map_stays v d e answer x h.1.there in
      λ i. asked (actions.Read (a i) count) line f (answers.Bytes (bytes_of_words count (b i))) ∷ []
  kind_seen_stays v line f (Write pointer bytes first) h =
      let a = x.value_stays v pointer h.0.there in let b = map_stays v d e bytes x (bytes_there bytes h.1) in
      λ i. asked (actions.Write (a i) (b i) first) line f answers.Done ∷ []
  kind_seen_stays v line f (Look pointer subscript answer) h =
      let a = x.value_stays v pointer h.0.there in let b = x.value_stays v answer h.1.there in
      λ i. asked (actions.Look (a i) subscript) line f (answers.Size (b i)) ∷ []
  kind_seen_stays v line f (Alloc size bytes readonly heap answer) h =
      let a = x.value_stays v size h.0.there in let b = map_stays v d e bytes x (bytes_there bytes h.1) in let c = x.value_stays v answer h.2.there in
      λ i. asked (actions.Alloc (made_of readonly heap (take (a i) (b i)))) line f (answers.Number (c i)) ∷ []
  kind_seen_stays v line f (Die pointer) h = ap (λ n. asked (actions.Die (object_of n)) line f answers.Done ∷ []) (x.value_stays v pointer h.there)
  kind_seen_stays v line f (Free pointer) h = ap (λ n. asked (actions.Free n) line f answers.Done ∷ []) (x.value_stays v pointer h.there)
  kind_seen_stays v line f Exit h = refl
  kind_seen_stays v line f (Check class failing) h = ap (λ n. if holds n then stopped (Broken class line f) ∷ [] else []) (x.value_stays v failing h.there)
  kind_seen_stays v line f (Assume failing) h = ap (λ n. if holds n then stopped Blocked ∷ [] else []) (x.value_stays v failing h.there)

  pub event_stays : (v : ℕ → ℕ) (event : Event) → EventIn d event → event_seen v e event ≡ event_seen v d event
  event_stays v event h =
      let p = x.value_stays v event.guard h.guard.there in
      let q = kind_seen_stays v event.line event.function event.kind h.kind in
      λ i. if holds (p i) then q i else []

  pub seen_stays : (v : ℕ → ℕ) (es : List Event) → FormIn d es → seen v e es ≡ seen v d es
  seen_stays v [] h = refl
  seen_stays v (event ∷ es) h =
      let p = event_stays v event (All-head (EventIn d) event es h) in
      let q = seen_stays v es (All-tail (EventIn d) event es h) in
      λ i. p i ++ q i

  pub run_stays : (v : ℕ → ℕ) (es : List Event) → FormIn d es → run_read v e es ≡ run_read v d es
  run_stays v es h = ap (λ told. read told (stops (Ended (word_64 0)))) (seen_stays v es h)

  -- what was a form stays one
  pub is_form_stays : (b : Behaviour) (es : List Event) → FormIn d es → IsForm b d es → IsForm b e es
  is_form_stays b es there form = record {
    gives = λ v run next begins. form.gives v run next (subst (λ (r : Run). Begins run next r) (run_stays v es there) begins);
    has = λ run next local. let h = form.has run next local in (h.0, subst (λ (r : Run). Begins run next r) (sym (run_stays h.0 es there)) h.1);
  }

  -- a constant stays the node that it is
  pub fixed_stays : (i : Id) → IsFixed d i → IsFixed e i
  fixed_stays i h = (h.0, (within_stays d e i x h.1.0, x.node_stays i.index (Constant h.0 64) h.1.0 ∙ h.1.1))

  pub static_stays : (k : EventKind) → IsStaticKind d k → IsStaticKind e k
  static_stays (Draw bits answer) h = tt
  static_stays (Fill count most words) h = h
  static_stays (Read pointer count answer) h = fixed_stays pointer h
  static_stays (Write pointer bytes first) h = (fixed_stays pointer h.0, h.1)
  static_stays (Look pointer subscript answer) h = h
  static_stays (Alloc size bytes readonly heap answer) h = h
  static_stays (Die pointer) h = h
  static_stays (Free pointer) h = h
  static_stays Exit h = tt
  static_stays (Check class failing) h = tt
  static_stays (Assume failing) h = tt

  pub all_static_stay : (es : List Event) → AreStatic d es → AreStatic e es
  all_static_stay es h = All-weaker (λ (ev : Event). IsStaticKind d ev.kind) (λ (ev : Event). IsStaticKind e ev.kind) (λ ev k. static_stays ev.kind k) es h

pub none_static : (d : List Node) → AreStatic d []
none_static d = All-nil (λ (ev : Event). IsStaticKind d ev.kind)
