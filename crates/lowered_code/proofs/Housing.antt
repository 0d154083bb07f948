-- Blocks that are there for values on the way, and for objects that are made.
use Rattle.std.proofs.Common.{◌≡◌, ℕ, ◌+◌, ◌<◌, ◌≤◌, List, [], ◌∷◌, ◌++◌, length, sym, ◌∙◌, subst, arith, append_assoc, length-append}
use Rattle.std.specs.Prelude.{slice_index}
use Rattle.std.proofs.Math.Seq.{get_or-append_seam}
use Rattle.c_temporaries.specs.Temporaries.{Temporaries, greater, both, under, under_all, clearing, making, heap_bytes}

module _ (blocks : List ℕ) where
  -- a block that is free, which isn't the last one
  pub record Room (d size : ℕ) : Type 0 where
    pub there : d + 1 < length blocks
    pub fits : size ≤ slice_index blocks d

  -- blocks from d on are as large
  abbrev pub HasTemporaries : ℕ → List ℕ → Type 0
  HasTemporaries d [] = Unit {0}
  HasTemporaries d (size ∷ sizes) = Room d size × HasTemporaries (d + 1) sizes

  left_temporaries : (d : ℕ) (xs ys : List ℕ) → HasTemporaries d (greater xs ys) → HasTemporaries d xs
  left_temporaries d [] ys h = tt
  left_temporaries d (x ∷ xs) [] h = h
  left_temporaries d (x ∷ xs) (y ∷ ys) h = (record { there = h.0.there; fits = omega (arith, h.0.fits) }, left_temporaries (d + 1) xs ys h.1)

  right_temporaries : (d : ℕ) (xs ys : List ℕ) → HasTemporaries d (greater xs ys) → HasTemporaries d ys
  right_temporaries d [] ys h = h
  right_temporaries d (x ∷ xs) [] h = tt
  right_temporaries d (x ∷ xs) (y ∷ ys) h = (record { there = h.0.there; fits = omega (arith, h.0.fits) }, right_temporaries (d + 1) xs ys h.1)

  -- the block whose bytes stay 0, and the one in which objects are made
  module _ (z h : ℕ) where
    pub record Housed (d : ℕ) (r : Temporaries) : Type 0 where
      pub zeros : r.zeros ≤ slice_index blocks z
      pub sizes : HasTemporaries d r.sizes
      pub heap : r.heap ≤ slice_index blocks h

    pub housed_left : (d : ℕ) (a b : Temporaries) → Housed d (both a b) → Housed d a
    housed_left d a b h = record { zeros = omega (arith, h.zeros); sizes = left_temporaries d a.sizes b.sizes h.sizes; heap = omega (arith, h.heap) }

    pub housed_right : (d : ℕ) (a b : Temporaries) → Housed d (both a b) → Housed d b
    housed_right d a b h = record { zeros = omega (arith, h.zeros); sizes = right_temporaries d a.sizes b.sizes h.sizes; heap = omega (arith, h.heap) }

    pub housed_under : (d size : ℕ) (a : Temporaries) → Housed d (under size a) → Housed (d + 1) a
    housed_under d size a h = record { zeros = h.zeros; sizes = h.sizes.1; heap = h.heap }

    pub housed_room : (d size : ℕ) (a : Temporaries) → Housed d (under size a) → Room d size
    housed_room d size a h = h.sizes.0

    temporaries_front : (d : ℕ) (xs ys : List ℕ) → HasTemporaries d (xs ++ ys) → HasTemporaries d xs
    temporaries_front d [] ys h = tt
    temporaries_front d (x ∷ xs) ys h = (h.0, temporaries_front (d + 1) xs ys h.1)

    temporaries_back : (d : ℕ) (xs ys : List ℕ) → HasTemporaries d (xs ++ ys) → HasTemporaries (d + length xs) ys
    temporaries_back d [] ys h = let same : d ≡ d + 0 = omega arith in subst (λ (e : ℕ). HasTemporaries e ys) same h
    temporaries_back d (x ∷ xs) ys h = let same : d + 1 + length xs ≡ d + length (x ∷ xs) = omega arith in subst (λ (e : ℕ). HasTemporaries e ys) same (temporaries_back (d + 1) xs ys h.1)

    -- the first of these blocks, and those behind them
    pub housed_front : (d : ℕ) (xs : List ℕ) (a : Temporaries) → Housed d (under_all xs a) → HasTemporaries d xs
    housed_front d xs a h = temporaries_front d xs a.sizes h.sizes

    pub housed_back : (d : ℕ) (xs : List ℕ) (a : Temporaries) → Housed d (under_all xs a) → Housed (d + length xs) a
    housed_back d xs a h = record { zeros = h.zeros; sizes = temporaries_back d xs a.sizes h.sizes; heap = h.heap }

    pub housed_behind : (d size : ℕ) (a : Temporaries) → Housed d (clearing size a) → Housed d a
    housed_behind d size a h = record { zeros = omega (arith, h.zeros); sizes = h.sizes; heap = h.heap }

    pub housed_zeros : (d size : ℕ) (a : Temporaries) → Housed d (clearing size a) → size ≤ slice_index blocks z
    housed_zeros d size a h = omega (arith, h.zeros)

    pub housed_making : (d : ℕ) (a : Temporaries) → Housed d (making a) → Housed d a
    housed_making d a h = record { zeros = h.zeros; sizes = h.sizes; heap = omega (arith, h.heap) }

    pub housed_heap : (d : ℕ) (a : Temporaries) → Housed d (making a) → heap_bytes ≤ slice_index blocks h
    housed_heap d a h = omega (arith, h.heap)

-- the blocks of a function are there, before one more
temporaries_behind : (front sizes : List ℕ) (heap : ℕ) → HasTemporaries (front ++ (sizes ++ heap ∷ [])) (length front) sizes
temporaries_behind front [] heap = tt
temporaries_behind front (size ∷ sizes) heap =
    let more = front ++ size ∷ [] in
    let rest = sizes ++ heap ∷ [] in
    let long : length more ≡ length front + 1 = length-append front (size ∷ []) in
    let all : length (front ++ size ∷ rest) ≡ length front + length (size ∷ rest) = length-append front (size ∷ rest) in
    let one : length rest ≡ length sizes + 1 = length-append sizes (heap ∷ []) in
    let is : slice_index (front ++ size ∷ rest) (length front) ≡ size = get_or-append_seam front size rest 0 in (
      record { there = omega (arith, all, one); fits = omega (arith, is) },
      subst (λ (d : ℕ). HasTemporaries (front ++ size ∷ rest) d sizes) long (subst (λ (bs : List ℕ). HasTemporaries bs (length more) sizes) (append_assoc front (size ∷ []) rest) (temporaries_behind more sizes heap)),
    )

-- the last block of a function is the one in which objects are made
pub heap_is : (variables : List ℕ) (given : ℕ) (r : Temporaries) → slice_index (variables ++ r.zeros ∷ given ∷ (r.sizes ++ r.heap ∷ [])) (length variables + 2 + length r.sizes) ≡ r.heap
heap_is variables given r =
    let front = variables ++ r.zeros ∷ given ∷ [] in
    let before = front ++ r.sizes in
    let long : length front ≡ length variables + 2 = length-append variables (r.zeros ∷ given ∷ []) in
    let count : length before ≡ length variables + 2 + length r.sizes = omega (arith, long, length-append front r.sizes) in
    let last : slice_index (before ++ r.heap ∷ []) (length before) ≡ r.heap = get_or-append_seam before r.heap [] 0 in
    let whole : before ++ r.heap ∷ [] ≡ variables ++ r.zeros ∷ given ∷ (r.sizes ++ r.heap ∷ []) = append_assoc front r.sizes (r.heap ∷ []) ∙ append_assoc variables (r.zeros ∷ given ∷ []) (r.sizes ++ r.heap ∷ []) in
    (λ i. slice_index (sym whole i) (sym count i)) ∙ last

-- behind the variables a block whose bytes stay 0, one for what the function hands over, those on the way, and one in which objects are made
pub housed_body : (variables : List ℕ) (given : ℕ) (r : Temporaries) → Housed (variables ++ r.zeros ∷ given ∷ (r.sizes ++ r.heap ∷ [])) (length variables) (length variables + 2 + length r.sizes) (length variables + 2) r
housed_body variables given r =
    let rest = r.sizes ++ r.heap ∷ [] in
    let all = variables ++ r.zeros ∷ given ∷ rest in
    let is : slice_index all (length variables) ≡ r.zeros = get_or-append_seam variables r.zeros (given ∷ rest) 0 in
    let front = variables ++ r.zeros ∷ given ∷ [] in
    let long : length front ≡ length variables + 2 = length-append variables (r.zeros ∷ given ∷ []) in
    let same : front ++ rest ≡ all = append_assoc variables (r.zeros ∷ given ∷ []) rest in
    record {
      zeros = omega (arith, is);
      sizes = subst (λ (d : ℕ). HasTemporaries all d r.sizes) long (subst (λ (bs : List ℕ). HasTemporaries bs (length front) r.sizes) same (temporaries_behind front r.sizes r.heap));
      heap = omega (arith, heap_is variables given r);
    }
