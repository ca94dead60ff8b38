-- A journal agrees with a library: what came is the library's. Where no library is told, it agrees.
use Rattle.std.specs.Prelude.{ℕ, ◌≡◌, ◌≤◌, Bool, true, false, if◌then◌else◌, Option, Some, None, option_map, List, [], ◌∷◌, length}
use Rattle.tile_types.specs.declared.key.Key.{Key}
use Rattle.source_port.specs.Library.{Library, bytes_at, HasBytes, Lacks, PassesLimit}
use Rattle.doc_store.specs.declared.limits.TheConstants.{DOCUMENT_LIMIT}
use Rattle.doc_store.specs.Docs.{is_content}
use Rattle.content_digest.specs.declared.facts.ContentFacts.{ContentFacts}
use Rattle.content_digest.specs.declared.limits.TheConstants.{CONTENT_LIMIT}
use Rattle.content_digest.specs.Facts.{facts_of}
use Rattle.engine_state.specs.declared.entry.Entry.{Entry}
use Rattle.engine_state.specs.declared.entry.Entry.TheVariants.{Opened, Looked, LookRefused, Returned, Taken, DocumentArrived, ContentArrived, Squeezed, Absent, Failed, Starved, Retried, Closed}
use Rattle.engine_state.specs.declared.gone.Gone.{Gone}
use Rattle.engine_state.specs.declared.gone.Gone.TheVariants.{Missing, TooLong, StoreFull}
use Rattle.engine_state.specs.State.{State, unopened}
use Rattle.engine_state.specs.Room.{has_room}
use Rattle.engine_state.specs.After.{after}

-- how many bytes may come for a key
abbrev pub limit_of : Key → ℕ
limit_of key = if is_content key then CONTENT_LIMIT else DOCUMENT_LIMIT

-- what the library has at the address has this length and this digest
abbrev pub HasFacts : Option Library → List ℕ → ContentFacts → Type 0
HasFacts None address facts = Unit {0}
HasFacts (Some library) address facts =
    option_map facts_of (bytes_at library address) ≡ Some facts

-- what the library has at the address has this length
abbrev pub HasLength : Option Library → List ℕ → ℕ → Type 0
HasLength None address size = Unit {0}
HasLength (Some library) address size = option_map length (bytes_at library address) ≡ Some size

-- for what the library has at the address there is no room in the store
abbrev pub HasNoRoom : Option Library → State → List ℕ → Type 0
HasNoRoom None s address = Unit {0}
HasNoRoom (Some library) s address =
    (bytes : List ℕ) × (bytes_at library address ≡ Some bytes)
    × (has_room s.loaded (length bytes) ≡ false)

abbrev pub IsGone : Option Library → State → Key → Gone → Type 0
IsGone told s key Missing = Lacks told key.address
IsGone told s key TooLong = PassesLimit told key.address (limit_of key)
IsGone told s key StoreFull = HasNoRoom told s key.address

-- what came by an entry in a state
abbrev pub AgreesAt : Option Library → State → Entry → Type 0
AgreesAt told s (Opened root bytes budget order) =
    HasBytes told root bytes × (length bytes ≤ DOCUMENT_LIMIT)
AgreesAt told s (DocumentArrived pass key bytes) =
    HasBytes told key.address bytes × (length bytes ≤ DOCUMENT_LIMIT)
AgreesAt told s (ContentArrived pass address size digest out) =
    HasFacts told address (record { length = size; digest = digest }) × (size ≤ CONTENT_LIMIT)
AgreesAt told s (Squeezed pass address size) = HasLength told address size × (size ≤ CONTENT_LIMIT)
AgreesAt told s (Absent pass key why) = IsGone told s key why
AgreesAt told s (Looked pass id viewer view settled) = Unit {0}
AgreesAt told s (LookRefused pass viewer view settled why) = Unit {0}
AgreesAt told s (Returned pass id) = Unit {0}
AgreesAt told s (Taken pass key) = Unit {0}
AgreesAt told s (Failed pass key count) = Unit {0}
AgreesAt told s (Starved pass key) = Unit {0}
AgreesAt told s (Retried pass) = Unit {0}
AgreesAt told s (Closed pass) = Unit {0}

abbrev pub AgreesFrom : Option Library → State → List Entry → Type 0
AgreesFrom told s [] = Unit {0}
AgreesFrom told s (e ∷ es) = AgreesAt told s e × AgreesFrom told (after s e) es

abbrev pub Agrees : Option Library → List Entry → Type 0
Agrees told entries = AgreesFrom told unopened entries

-- ---- what a library's journal can miss

-- the entry isn't that a document found no room in the store
abbrev pub has_found_room : Entry → Bool
has_found_room (Absent pass key StoreFull) = false
has_found_room _ = true
