-- The statements of the laws.
use Rattle.std.specs.Prelude.{◌≡◌, ℕ, List}
use Rattle.code_listing.specs.Listing.{listing}
use Rattle.code_listing.specs.Sheets.{Listed}
use Rattle.listing_loader.specs.declared.fault.LoadFault.{LoadFault}
use Rattle.listing_loader.specs.declared.fault.LoadFault.TheVariants.{NoMemory}
use Rattle.listing_loader.specs.LoadedCode.{IsLoadFault, IsHeld}

-- Beside want of memory, at most one fault is a text's, and none is that of a listing.
pub record OneAnswer : Type 0 where
  pub one : (text : List ℕ) (f g : LoadFault) → IsLoadFault text f → IsLoadFault text g → ¬ (f ≡ NoMemory) → ¬ (g ≡ NoMemory) → f ≡ g
  pub none : (text : List ℕ) (l : Listed) (f : LoadFault) → IsHeld l → listing l.area l.states ≡ text → IsLoadFault text f → f ≡ NoMemory
