pub mod HostedStores
