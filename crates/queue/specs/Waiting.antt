-- What a queue over a lent slice holds, and what its calls promise.
use Rattle.std.specs.Prelude.{◌≡◌, ◌+◌, ◌<◌, Bool, List, ◌∷◌, length, take, drop, slice_index_or}
use Rattle.std.specs.List.Sorted.{IsPermutation}
use Rattle.std.specs.List.{ContainsAt as Has}
use Rattle.queue.specs.declared.heap.Heap.{Heap}
use Rattle.queue.specs.Heaps.{Heaped, Least}

module _ {X : Type 0} where
  -- the whole slice that was lent
  abbrev pub slots : Heap X → List X
  slots h = h.entries.now

  -- the entries that wait: the first `len` of the slice
  abbrev pub waiting : Heap X → List X
  waiting h = take h.len (slots h)

  -- k is over the slice that h is over: its lender finds there what k holds when k ends
  pub record OverSameSlice (h k : Heap X) : Type 0 where
    pub same_lender : k.entries.ghost_name ≡ h.entries.ghost_name
    pub same_length : length (slots k) ≡ length (slots h)

  module _ (before : X → X → Bool) where
    -- the entries that wait lie as a heap
    abbrev pub InHeapOrder : Heap X → Type 0
    InHeapOrder h = Heaped before (slots h) h.len

    -- x is the entry that leaves h next
    pub record First (h : Heap X) (x : X) : Type 0 where
      pub in_first_place : (d : X) → slice_index_or (slots h) 0 d ≡ x
      pub one_of_those_waiting : Has (waiting h) x
      pub none_comes_before_it : InHeapOrder h → Least before x (waiting h)

    -- k is h with e put in
    pub record Pushed (h : Heap X) (e : X) (k : Heap X) : Type 0 where
      pub had_room : h.len < length (slots h)
      pub counts_one_more : k.len ≡ h.len + 1
      pub adds_exactly_the_entry : IsPermutation (e ∷ waiting h) (waiting k)
      pub rest_untouched : drop k.len (slots k) ≡ drop k.len (slots h)
      pub keeps_heap_order : InHeapOrder h → InHeapOrder k

    -- k is h with x, its first entry, taken out
    pub record Popped (h : Heap X) (x : X) (k : Heap X) : Type 0 where
      pub was_first : First h x
      pub counts_one_fewer : h.len ≡ k.len + 1
      pub removes_exactly_the_answer : IsPermutation (waiting h) (x ∷ waiting k)
      pub rest_untouched : drop k.len (slots k) ≡ drop k.len (slots h)
      pub keeps_heap_order : InHeapOrder h → InHeapOrder k
