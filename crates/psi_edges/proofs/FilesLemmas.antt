-- The files of a map from names to bytes: what is found by a name, and what an insertion makes of them.
use Rattle.std.proofs.Common.{◌≡◌, ℕ, List, [], ◌∷◌, Bool, true, false, cond, map, refl, sym, ap, ◌∙◌}
use Rattle.std.specs.Prelude.{Option, Some, None, Vec, String}
use Rattle.std.specs.Option.{option_map}
use Rattle.std.specs.Ordering.{nat_cmp, eq_by_cmp, is_eq}
use Rattle.std.specs.Cmp.{eq_by_cmp_equiv}
use Rattle.std.specs.Cmp.Lexicographic.{slice_cmp, nat_list_cmp_total}
use Rattle.std.specs.FinMap.{get, insert, find, get-from_entries, get-insert, same_map, nat_cmp-IsAntisymmetric, slice_cmp-IsAntisymmetric}
use Rattle.std.specs.Map.{lookup}
use Rattle.std.specs.BTreeMap.{BTreeMap, get_by_text, UpdatesBy}
use Rattle.std.specs.Str.{bytes_eq}
use Rattle.std.specs.String.{string_bytes, string_cmp}
use Rattle.std.proofs.lemmas.Map.Text.{is_eq-slice_cmp, btree_map_updates_text}
use Rattle.psi_edges.specs.Memory.{files_of}

-- the bytes of a file that is chosen by a test
choose : {Z : Type 0} (b : Bool) (file : Vec ℕ Z) (rest : Option (Vec ℕ Z)) → cond b (Some file.items) (option_map (λ f. f.items) rest) ≡ option_map (λ f. f.items) (cond b (Some file) rest)
choose true file rest = refl
choose false file rest = refl

-- names are compared as bytes or by their order
same_name : (a b : List ℕ) → bytes_eq a b ≡ eq_by_cmp (slice_cmp nat_cmp) b a
same_name a b = sym (is_eq-slice_cmp a b) ∙ (eq_by_cmp_equiv nat_list_cmp_total).symm a b

module _ {Y Z : Type 0} where
  -- a file is found where the map has its name
  find_file : (entries : List (String Y × Vec ℕ Z)) (name : List ℕ) → find (slice_cmp nat_cmp) name (map (λ e. (string_bytes e.0, e.1.items)) entries) ≡ option_map (λ f. f.items) (lookup (λ k. is_eq (slice_cmp nat_cmp name (string_bytes k))) entries)
  find_file [] name = refl
  find_file (e ∷ entries) name =
      ap (cond (is_eq (slice_cmp nat_cmp name (string_bytes e.0))) (Some e.1.items)) (find_file entries name)
      ∙ choose (is_eq (slice_cmp nat_cmp name (string_bytes e.0))) e.1 _

  -- what a shelf tells of a name is what the map has there
  get_file : (m : BTreeMap (String Y) (Vec ℕ Z)) (name : List ℕ) → get (files_of m.entries) name ≡ option_map (λ f. f.items) (get_by_text m name)
  get_file m name = get-from_entries nat_list_cmp_total _ name ∙ find_file m.entries name

  -- to insert a file in the map is to put it on the shelf
  insert_file : (m n : BTreeMap (String Y) (Vec ℕ Z)) (name : List ℕ) (file : Vec ℕ Z) → UpdatesBy string_cmp (λ k. slice_cmp nat_cmp name (string_bytes k)) m n (Some file) → files_of n.entries ≡ insert (files_of m.entries) name file.items
  insert_file m n name file updates = same_map nat_list_cmp_total (slice_cmp-IsAntisymmetric nat_cmp-IsAntisymmetric) _ _ (λ q.
      get_file n q
      ∙ ap (option_map (λ f. f.items)) (btree_map_updates_text name m n (Some file) updates q)
      ∙ sym (choose (bytes_eq name q) file (get_by_text m q))
      ∙ ap (λ b. cond b (Some file.items) (option_map (λ f. f.items) (get_by_text m q))) (same_name name q)
      ∙ ap (cond (eq_by_cmp (slice_cmp nat_cmp) q name) (Some file.items)) (sym (get_file m q))
      ∙ sym (get-insert nat_list_cmp_total (files_of m.entries) name file.items q))

  -- the same, where the key and the file are copies of a name and of bytes
  pub insert_copies : (m n : BTreeMap (String Y) (Vec ℕ Z)) (key : String Y) (file : Vec ℕ Z) (name bytes : List ℕ) → string_bytes key ≡ name → file.items ≡ bytes → UpdatesBy string_cmp (string_cmp key) m n (Some file) → files_of n.entries ≡ insert (files_of m.entries) name bytes
  insert_copies m n key file name bytes named same updates =
      insert_file m n (string_bytes key) file updates
      ∙ ap (λ k. insert (files_of m.entries) k file.items) named
      ∙ ap (insert (files_of m.entries) name) same

  -- the file that the map has at a name is the shelf's
  pub found : (m : BTreeMap (String Y) (Vec ℕ Z)) (name : List ℕ) (file : Vec ℕ Z) (bytes : List ℕ) → bytes ≡ file.items → Some file ≡ get_by_text m name → Some bytes ≡ get (files_of m.entries) name
  found m name file bytes same there = ap Some same ∙ ap (option_map (λ f. f.items)) there ∙ sym (get_file m name)

  -- what the map lacks the shelf lacks
  pub lacking : (m : BTreeMap (String Y) (Vec ℕ Z)) (name : List ℕ) → None ≡ get_by_text m name → None ≡ get (files_of m.entries) name
  lacking m name there = ap (option_map (λ f. f.items)) there ∙ sym (get_file m name)
