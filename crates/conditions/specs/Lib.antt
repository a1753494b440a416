pub mod DrainingLaws
